-- Words read one after the other as numbers.
use Rattle.std.proofs.Common.{◌≡◌, ℕ, ◌+◌, ◌<◌, ◌≤◌, Bool, true, false, cond, eqb, List, [], ◌∷◌, ◌++◌, length, take, set, Some, None, Option, is_some, sym, refl, ap, ◌∙◌, arith, Bor}
use Rattle.std.specs.Bool.{then_some}
use Rattle.std.specs.Option.{option_map}
use Rattle.std.proofs.Math.Bool.{not}
use Rattle.std.proofs.lemmas.List.{append_assoc, append-nil, take_all, take_more_set}
use Rattle.std.proofs.lemmas.Bool.{eq-eqb, ne_eqb, cond-true, cond-false, false≢true, true≢false}
use Rattle.text_pieces.specs.Numerals.{number_in}
use Rattle.text_pieces.specs.Pieces.{words, words_after}
use Rattle.text_pieces.proofs.WordRuns.{some_word}
use Rattle.job_text.specs.Counted.{ahead, numbers_in, exactly}

-- numbers in front of others
abbrev following : List ℕ → Option (List ℕ) → Option (List ℕ)
following xs o = option_map (λ ns. xs ++ ns) o

-- k words are read, and `left` is still to read
pub record Read (all left : List (List ℕ)) (numbers : List ℕ) (k : ℕ) : Type 0 where
  pub values : numbers_in all ≡ following (take k numbers) (numbers_in left)
  pub count : length all ≡ k + length left

mapped_same : (o : Option (List ℕ)) → o ≡ following [] o
mapped_same None = refl
mapped_same (Some ns) = refl

pub read_none : (all : List (List ℕ)) (numbers : List ℕ) → Read all all numbers 0
read_none all numbers = record { values = mapped_same (numbers_in all); count = omega arith }

ahead_more : (xs : List ℕ) (n : ℕ) (o : Option (List ℕ)) → following xs (ahead (Some n) o) ≡ following (xs ++ (n ∷ [])) o
ahead_more xs n None = refl
ahead_more xs n (Some ms) = ap Some (sym (append_assoc xs (n ∷ []) ms))

pub read_more : (all left rest : List (List ℕ)) (w : List ℕ) (numbers : List ℕ) (k n : ℕ) → Read all left numbers k → left ≡ w ∷ rest → number_in w ≡ Some n → k < length numbers → Read all rest (set numbers k n) (k + 1)
read_more all left rest w numbers k n r e f h =
    record {
      values =
          r.values
          ∙ ap (λ (ws : List (List ℕ)). following (take k numbers) (numbers_in ws)) e
          ∙ ap (λ (o : Option ℕ). following (take k numbers) (ahead o (numbers_in rest))) f
          ∙ ahead_more (take k numbers) n (numbers_in rest)
          ∙ ap (λ (xs : List ℕ). following xs (numbers_in rest)) (sym (take_more_set numbers k n h));
      count = omega (arith, r.count, ap length e);
    }

-- too few words
pub read_short : (N : ℕ) (all left : List (List ℕ)) (numbers : List ℕ) (k : ℕ) → Read all left numbers k → left ≡ [] → k < N → None ≡ exactly N all
unfolding exactly
read_short N all left numbers k r e h =
    let n : (length all ≡ N → ⊥) = λ z. omega (arith, r.count, ap length e) in
    sym (cond-false (eqb (length all) N) (numbers_in all) None (ne_eqb (length all) N n))

-- too many words
read_long : (N : ℕ) (all left : List (List ℕ)) (numbers : List ℕ) (k : ℕ) (rest : List ℕ) → Read all left numbers k → left ≡ words rest → N ≤ k → None ≡ exactly N all
unfolding exactly
read_long N all left numbers k rest r e h =
    let (p, ps, f) = some_word rest in
    let n : (length all ≡ N → ⊥) = λ z. omega (arith, r.count, ap length (e ∙ f)) in
    sym (cond-false (eqb (length all) N) (numbers_in all) None (ne_eqb (length all) N n))

either_none : (b : Bool) (o : Option (List ℕ)) → o ≡ None → cond b o None ≡ None
either_none true o e = e
either_none false o e = refl

none_at : (N : ℕ) (all : List (List ℕ)) → numbers_in all ≡ None → None ≡ exactly N all
unfolding exactly
none_at N all e = sym (either_none (eqb (length all) N) (numbers_in all) e)

-- a word that is no number
pub read_wrong : (N : ℕ) (all left rest : List (List ℕ)) (w : List ℕ) (numbers : List ℕ) (k : ℕ) → Read all left numbers k → left ≡ w ∷ rest → number_in w ≡ None → None ≡ exactly N all
read_wrong N all left rest w numbers k r e f =
    none_at N all (r.values ∙ ap (λ (ws : List (List ℕ)). following (take k numbers) (numbers_in ws)) e ∙ ap (λ (o : Option ℕ). following (take k numbers) (ahead o (numbers_in rest))) f)

-- all words
read_all : (N : ℕ) (all left : List (List ℕ)) (numbers : List ℕ) (k : ℕ) → Read all left numbers k → left ≡ [] → k ≡ N → length numbers ≡ N → Some numbers ≡ exactly N all
unfolding exactly
read_all N all left numbers k r e h g =
    let n : length all ≡ N = omega (arith, r.count, ap length e) in
    let v : numbers_in all ≡ Some numbers = r.values ∙ ap (λ (ws : List (List ℕ)). following (take k numbers) (numbers_in ws)) e ∙ ap Some (append-nil (take k numbers) ∙ take_all k numbers (omega arith)) in
    sym (cond-true (eqb (length all) N) (numbers_in all) None (eq-eqb (length all) N n) ∙ v)

-- the numbers where no word is left, else none
pub read_end : (N : ℕ) (all : List (List ℕ)) (left : Option (Bor (List ℕ))) (over : Bool) (numbers : List ℕ) (k : ℕ) → Read all (words_after (option_map (λ x. x.now) left)) numbers k → is_some left ≡ not over → N ≤ k → k ≤ N → length numbers ≡ N → then_some over numbers ≡ exactly N all
read_end N all None true numbers k r e low high n = read_all N all [] numbers k r refl (omega arith) n
read_end N all None false numbers k r e low high n = absurd (false≢true e)
read_end N all (Some rest) true numbers k r e low high n = absurd (true≢false e)
read_end N all (Some rest) false numbers k r e low high n = read_long N all (words rest.now) numbers k rest.now r refl low
