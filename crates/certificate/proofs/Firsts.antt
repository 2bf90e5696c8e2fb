-- The first no of questions that come one list after the other.
use Rattle.std.proofs.Common.{◌≡◌, ℕ, ◌+◌, ◌<◌, ◌≤◌, Bool, true, false, cond, List, [], ◌∷◌, ◌++◌, length, get_or, drop, Ok, Err, Result, sym, refl, ◌∙◌}
use Rattle.std.proofs.lemmas.List.{at_drop_more, at_drop_all}
use Rattle.std.specs.List.{flat_map, AllByRecursion}
use Rattle.certificate.specs.Asked.{Asked, first_no}
use Rattle.certificate.specs.declared.fault.CertificateFault.{CertificateFault}

abbrev Answer : Type 0
Answer = Result Unit CertificateFault

then_at : (t : Bool) (e : CertificateFault) (x y z : Answer) → (x ≡ Ok tt → y ≡ z) → cond t x (Err e) ≡ Ok tt → cond t y (Err e) ≡ z
then_at true e x y z ih h = ih h
then_at false e x y z ih h = cc

-- all yes, and on to the next list
pub first_no_then : (xs ys : Asked) → first_no xs ≡ Ok tt → first_no (xs ++ ys) ≡ first_no ys
first_no_then [] ys h = refl
first_no_then (q ∷ xs) ys h = then_at q.0 q.1 (first_no xs) (first_no (xs ++ ys)) (first_no ys) (first_no_then xs ys) h

stop_at : (t : Bool) (e f : CertificateFault) (x y : Answer) → (x ≡ Err f → y ≡ Err f) → cond t x (Err e) ≡ Err f → cond t y (Err e) ≡ Err f
stop_at true e f x y ih h = ih h
stop_at false e f x y ih h = h

-- a no in the first list is the refusal
pub first_no_stop : (xs ys : Asked) (f : CertificateFault) → first_no xs ≡ Err f → first_no (xs ++ ys) ≡ Err f
first_no_stop [] ys f h = cc
first_no_stop (q ∷ xs) ys f h = stop_at q.0 q.1 f (first_no xs) (first_no (xs ++ ys)) (first_no_stop xs ys f) h

yes_at : (t : Bool) (e : CertificateFault) (x : Answer) (P : Type 0) → (x ≡ Ok tt → P) → cond t x (Err e) ≡ Ok tt → (t ≡ true) × P
yes_at true e x P ih h = (refl, ih h)
yes_at false e x P ih h = absurd cc

-- no refusal: each question is answered yes
pub all_yes : (xs : Asked) → first_no xs ≡ Ok tt → AllByRecursion (λ q. q.0 ≡ true) xs
all_yes [] h = tt
all_yes (q ∷ xs) h = yes_at q.0 q.1 (first_no xs) (AllByRecursion (λ r. r.0 ≡ true) xs) (all_yes xs) h

-- questions of each item of a list, in the list's order: `left` is what is still to ask
module _ {X : Type 0} (f : X → Asked) (xs : List X) (i : ℕ) (d : X) (all : Answer) (left : first_no (flat_map f (drop i xs)) ≡ all) where
  pub asked_more : i < length xs → first_no (f (get_or xs i d)) ≡ Ok tt → first_no (flat_map f (drop (i + 1) xs)) ≡ all
  asked_more h granted =
      let e : first_no (flat_map f (drop i xs)) ≡ first_no (f (get_or xs i d) ++ flat_map f (drop (i + 1) xs)) = at_drop_more (λ (ys : List X). first_no (flat_map f ys)) xs i d h in
      sym (first_no_then (f (get_or xs i d)) (flat_map f (drop (i + 1) xs)) granted) ∙ sym e ∙ left

  pub asked_stop : (e : CertificateFault) → i < length xs → first_no (f (get_or xs i d)) ≡ Err e → Err e ≡ all
  asked_stop f' h refused =
      let e : first_no (flat_map f (drop i xs)) ≡ first_no (f (get_or xs i d) ++ flat_map f (drop (i + 1) xs)) = at_drop_more (λ (ys : List X). first_no (flat_map f ys)) xs i d h in
      sym (first_no_stop (f (get_or xs i d)) (flat_map f (drop (i + 1) xs)) f' refused) ∙ sym e ∙ left

  pub asked_all : length xs ≤ i → Ok tt ≡ all
  asked_all h = let e : first_no (flat_map f (drop i xs)) ≡ Ok tt = at_drop_all (λ (ys : List X). first_no (flat_map f ys)) xs i h in sym e ∙ left
