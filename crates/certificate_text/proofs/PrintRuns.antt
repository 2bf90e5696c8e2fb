-- The text of a certificate, line after line.
use Rattle.std.proofs.Common.{◌≡◌, ℕ, List, [], ◌++◌, ap, ◌∙◌, append_assoc}

-- one more line, where `rest` is still to print
pub line_more : (out line rest new all : List ℕ) → new ≡ out ++ line → out ++ (line ++ rest) ≡ all → new ++ rest ≡ all
line_more out line rest new all e l = ap (λ (xs : List ℕ). xs ++ rest) e ∙ append_assoc out line rest ∙ l

-- what is printed, part after part
pub parts : (start one two three a b c : List ℕ) → start ≡ [] → one ≡ start ++ a → two ≡ one ++ b → three ≡ two ++ c → three ≡ a ++ (b ++ c)
parts start one two three a b c e f g h = let all : three ≡ (([] ++ a) ++ b) ++ c = cc in all ∙ append_assoc a b c
