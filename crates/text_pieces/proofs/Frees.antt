-- No byte is the mark, byte by byte: by recursion, since the lemmas take and give the bytes one at a time.
use Rattle.std.proofs.Common.{All, ℕ, List, [], ◌∷◌, ◌≢◌}
use Rattle.std.specs.List.{AllByRecursion}
use Rattle.std.proofs.lemmas.List.Elements.{All-from_recursion}
use Rattle.text_pieces.specs.Pieces.{Without}

abbrev pub Free : ℕ → List ℕ → Type 0
Free mark bs = AllByRecursion (λ c. c ≢ mark) bs

pub without : (mark : ℕ) (bs : List ℕ) → Free mark bs → Without mark bs
without mark bs h = All-from_recursion (λ c. c ≢ mark) bs h

each : (mark : ℕ) (ps : List (List ℕ)) → AllByRecursion (Free mark) ps → AllByRecursion (Without mark) ps
each mark [] h = tt
each mark (p ∷ ps) (h, t) = (without mark p h, each mark ps t)

pub without_each : (mark : ℕ) (ps : List (List ℕ)) → AllByRecursion (Free mark) ps → All (Without mark) ps
without_each mark ps h = All-from_recursion (Without mark) ps (each mark ps h)
