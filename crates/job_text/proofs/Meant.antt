-- A line is understood exactly where it is made as it must be.
use Rattle.std.proofs.Common.{◌≡◌, ℕ, ◌<◌, Bool, true, false, cond, eqb, ◌⊎◌, List, [], ◌∷◌, ◌++◌, map, length, get_or, Some, None, codes, decimal, Option, sym, refl, ap, ◌∙◌, inl, inr, ⊎_elim, arith}
use Rattle.std.specs.List.{range_with_len, AllByRecursion}
use Rattle.std.specs.Option.{option_map}
use Rattle.std.specs.Str.{bytes_eq}
use Rattle.std.proofs.lemmas.List.Elements.{recursion_from_All}
use Rattle.std.proofs.lemmas.List.FromFn.{fill_by_all}
use Rattle.std.proofs.lemmas.Slice.Eq.{bytes_eq-Decides}
use Rattle.std.proofs.lemmas.Option.{none-some, same_Some}
use Rattle.std.proofs.lemmas.Bool.{eq-eqb, eqb-true, cond-true}
use Rattle.text_pieces.specs.Numerals.{number_in}
use Rattle.text_pieces.specs.Pieces.{words, after_spaces, spaced}
use Rattle.text_pieces.proofs.Frees.{Free}
use Rattle.text_pieces.proofs.WordRuns.{some_word, words_of}
use Rattle.text_pieces.proofs.Written.{decimal_back, free_plain, words_spaced, free_number, plain}
use Rattle.job_text.specs.Counted.{ahead, numbers_in, exactly}
use Rattle.job_text.specs.Lines.{site_of, bolt_of, said_by, said, job_line}
use Rattle.job_text.specs.Written.{name_of, numbers_of, Says, printed, Small}
use Rattle.job_text.specs.declared.line.JobLine.{JobLine}
use Rattle.job_text.specs.declared.line.JobLine.TheVariants.{Site, Place, Lift, Rate}

-- one of two answers came
by_test : {A : Type 0} (t : Bool) (x y : Option A) (a : A) → cond t x y ≡ Some a → ((t ≡ true) × (x ≡ Some a)) ⊎ (y ≡ Some a)
by_test true x y a e = inl (refl, e)
by_test false x y a e = inr e

-- what was mapped
mapped_from : {A B : Type 0} (f : A → B) (o : Option A) (b : B) → option_map f o ≡ Some b → (a : A) × (o ≡ Some a) × (f a ≡ b)
mapped_from f None b e = absurd (none-some b e)
mapped_from f (Some a) b e = (a, refl, same_Some (f a) b e)

-- a number before others
ahead_from : (o : Option ℕ) (p : Option (List ℕ)) (ns : List ℕ) → ahead o p ≡ Some ns → (m : ℕ) × (ms : List ℕ) × (o ≡ Some m) × (p ≡ Some ms) × (m ∷ ms ≡ ns)
ahead_from None p ns e = absurd (none-some ns e)
ahead_from (Some m) None ns e = absurd (none-some ns e)
ahead_from (Some m) (Some ms) ns e = (m, ms, refl, refl, same_Some (m ∷ ms) ns e)

-- as many numbers as words, and no word has a space
length_numbers : (ws : List (List ℕ)) (ns : List ℕ) → numbers_in ws ≡ Some ns → length ws ≡ length ns
length_numbers [] ns e = ap length (same_Some [] ns e)
length_numbers (w ∷ ws) ns e =
    let (m, ms, a, b, g) = ahead_from (number_in w) (numbers_in ws) ns e in
    omega (arith, length_numbers ws ms b, ap length g)

free_numbers : (ws : List (List ℕ)) (ns : List ℕ) → numbers_in ws ≡ Some ns → AllByRecursion (Free 32) ws
free_numbers [] ns e = tt
free_numbers (w ∷ ws) ns e =
    let (m, ms, a, b, g) = ahead_from (number_in w) (numbers_in ws) ns e in
    (free_number w m a, free_numbers ws ms b)

-- words of a known count
exactly_from : (n : ℕ) (ws : List (List ℕ)) (ns : List ℕ) → exactly n ws ≡ Some ns → (numbers_in ws ≡ Some ns) × (length ns ≡ n)
unfolding exactly
exactly_from n ws ns e =
    ⊎_elim
    (λ (h : (eqb (length ws) n ≡ true) × (numbers_in ws ≡ Some ns)). (h.1, sym (length_numbers ws ns h.1) ∙ eqb-true (length ws) n h.0))
    (λ (h : None ≡ Some ns). absurd (none-some ns h))
    (by_test (eqb (length ws) n) (numbers_in ws) None ns e)

exactly_to : (n : ℕ) (ws : List (List ℕ)) (ns : List ℕ) → numbers_in ws ≡ Some ns → length ns ≡ n → exactly n ws ≡ Some ns
unfolding exactly
exactly_to n ws ns e h = cond-true (eqb (length ws) n) (numbers_in ws) None (eq-eqb (length ws) n (length_numbers ws ns e ∙ h)) ∙ e

-- a list is its items
items : (ns : List ℕ) (n : ℕ) → length ns ≡ n → ns ≡ map (λ k. get_or ns k 0) (range_with_len 0 n)
items ns n h = fill_by_all (λ k. get_or ns k 0) ns n 0 h (λ k l. refl)

-- a name with words of the right count: the numbers of what it says
abbrev Meant : List ℕ → List (List ℕ) → JobLine → Type 0
Meant w ws j = (w ≡ name_of j) × (numbers_in ws ≡ Some (numbers_of j))

meant : (w : List ℕ) (ws : List (List ℕ)) (j : JobLine) (name : List ℕ) (n : ℕ) (make : List ℕ → JobLine) → bytes_eq w name ≡ true → option_map make (exactly n ws) ≡ Some j → ((ns : List ℕ) → name_of (make ns) ≡ name) → ((ns : List ℕ) → numbers_of (make ns) ≡ map (λ k. get_or ns k 0) (range_with_len 0 n)) → Meant w ws j
meant w ws j name n make t e named numbered =
    let (ns, x, m) = mapped_from make (exactly n ws) j e in
    let (v, l) = exactly_from n ws ns x in
    let a : name_of j ≡ name = ap name_of (sym m) ∙ named ns in
    let b : numbers_of j ≡ ns = ap numbers_of (sym m) ∙ numbered ns ∙ sym (items ns n l) in
    ((bytes_eq-Decides w name).0 t ∙ sym a, v ∙ ap Some (sym b))

-- a name that is asked for, or one of those asked for after it
asked : (w : List ℕ) (ws : List (List ℕ)) (j : JobLine) (name : List ℕ) (n : ℕ) (make : List ℕ → JobLine) (rest : Option JobLine) → ((ns : List ℕ) → name_of (make ns) ≡ name) → ((ns : List ℕ) → numbers_of (make ns) ≡ map (λ k. get_or ns k 0) (range_with_len 0 n)) → (rest ≡ Some j → Meant w ws j) → cond (bytes_eq w name) (option_map make (exactly n ws)) rest ≡ Some j → Meant w ws j
asked w ws j name n make rest named numbered others e =
    ⊎_elim
    (λ (h : (bytes_eq w name ≡ true) × (option_map make (exactly n ws) ≡ Some j)). meant w ws j name n make h.0 h.1 named numbered)
    others
    (by_test (bytes_eq w name) (option_map make (exactly n ws)) rest j e)

pub called_from : (w : List ℕ) (ws : List (List ℕ)) (j : JobLine) → said_by w ws ≡ Some j → Meant w ws j
called_from w ws j =
    asked w ws j (codes "site") 10 (λ ns. Site (site_of ns)) _ (λ ns. refl) (λ ns. refl)
    (asked w ws j (codes "place") 3 (λ ns. Place (bolt_of ns)) _ (λ ns. refl) (λ ns. refl)
    (asked w ws j (codes "lift") 1 (λ ns. Lift (get_or ns 0 0)) _ (λ ns. refl) (λ ns. refl)
    (asked w ws j (codes "rate") 0 (λ ns. Rate) None (λ ns. refl) (λ ns. refl) (λ h. absurd (none-some j h)))))

called_to : (ws : List (List ℕ)) (j : JobLine) → numbers_in ws ≡ Some (numbers_of j) → said_by (name_of j) ws ≡ Some j
called_to ws (Site n) e = ap (option_map (λ ns. Site (site_of ns))) (exactly_to 10 ws (numbers_of (Site n)) e refl)
called_to ws (Place b) e = ap (option_map (λ ns. Place (bolt_of ns))) (exactly_to 3 ws (numbers_of (Place b)) e refl)
called_to ws (Lift p) e = ap (option_map (λ (ns : List ℕ). Lift (get_or ns 0 0))) (exactly_to 1 ws (numbers_of (Lift p)) e refl)
called_to ws Rate e = ap (option_map (λ (ns : List ℕ). Rate)) (exactly_to 0 ws [] e refl)

plain_name : (j : JobLine) → plain (name_of j) ≡ true
plain_name (Site n) = refl
plain_name (Place b) = refl
plain_name (Lift p) = refl
plain_name Rate = refl

-- what is understood is said
pub says : (line : List ℕ) (j : JobLine) → job_line line ≡ Some j → Says line j
unfolding job_line
says line j e =
    let (w, ws, f) = some_word line in
    let (a, b) = called_from w ws j (sym (ap said f) ∙ e) in
    record {
      numerals = ws;
      numbers = b;
      written = sym (words_of line).joined ∙ ap spaced f ∙ ap (λ (v : List ℕ). v ++ after_spaces ws) a;
    }

-- what is said is understood
pub understood : (line : List ℕ) (j : JobLine) → Says line j → job_line line ≡ Some j
unfolding job_line
understood line j s =
    let ws : List (List ℕ) = s.numerals in
    let e : words line ≡ name_of j ∷ ws = ap words s.written ∙ words_spaced (name_of j) ws (free_plain 32 (name_of j) (omega arith) (plain_name j)) (free_numbers ws (numbers_of j) s.numbers) in
    ap said e ∙ called_to ws j s.numbers

decimals_back : (ns : List ℕ) → AllByRecursion (λ n. n < 1000000000) ns → numbers_in (map decimal ns) ≡ Some ns
decimals_back [] h = refl
decimals_back (n ∷ ns) (h, t) =
    ap (λ (o : Option ℕ). ahead o (numbers_in (map decimal ns))) (decimal_back n h) ∙ ap (ahead (Some n)) (decimals_back ns t)

-- a printed line parses back
pub printed_back : (j : JobLine) → Small j → job_line (printed j) ≡ Some j
printed_back j h =
    understood (printed j) j (record { numerals = map decimal (numbers_of j); numbers = decimals_back (numbers_of j) (recursion_from_All (λ n. n < 1000000000) (numbers_of j) h); written = refl })
