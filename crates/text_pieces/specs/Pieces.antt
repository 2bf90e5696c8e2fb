-- The lines of a text, and the words of a line.
--   pieces mark end bs         the pieces between the bytes mark; an empty end counts as end
--   lines text                 each line ends with a line feed, which the last may lack
--   words line                 the words of a line stand between single spaces
--   words_after rest           the words of what follows a word and its space; none where nothing follows
--   Without mark bs            no byte is the mark
--   FirstOf wanted bs k        k is the first place of a byte, or the length where it does not occur
--   CutAt mark bs front back   front ends at the first mark, and back follows it; all and nothing where there is none
--   after_spaces ws            each word after a space
--   spaced ws                  words with single spaces between
--   WordsOf line ws            no word has a space, and with single spaces between they are the line
use Rattle.std.specs.Prelude.{All, ◌≡◌, ℕ, ◌<◌, ◌≤◌, cond, ◌⊎◌, List, [], ◌∷◌, ◌++◌, length, Some, None, Option, ◌==◌, ◌≢◌, slice_index}

-- a byte in front of the first piece
abbrev pub onto : ℕ → List (List ℕ) → List (List ℕ)
onto c [] = (c ∷ []) ∷ []
onto c (p ∷ ps) = (c ∷ p) ∷ ps

abbrev pub pieces : ℕ → List (List ℕ) → List ℕ → List (List ℕ)
pieces mark end [] = end
pieces mark end (c ∷ cs) = cond (c == mark) ([] ∷ pieces mark end cs) (onto c (pieces mark end cs))

unfoldable pub lines : List ℕ → List (List ℕ)
lines text = pieces 10 [] text

unfoldable pub words : List ℕ → List (List ℕ)
words line = pieces 32 ([] ∷ []) line

abbrev pub words_after : Option (List ℕ) → List (List ℕ)
words_after None = []
words_after (Some rest) = words rest

abbrev pub Without : ℕ → List ℕ → Type 0
Without mark bs = All (λ c. c ≢ mark) bs

pub record FirstOf (wanted : ℕ) (bs : List ℕ) (k : ℕ) : Type 0 where
  pub within : k ≤ length bs
  pub before : (j : ℕ) → j < k → slice_index bs j ≢ wanted
  pub found : k < length bs → slice_index bs k ≡ wanted

pub record CutAt (mark : ℕ) (bs front back : List ℕ) : Type 0 where
  pub free : Without mark front
  pub joined : (bs ≡ front ++ (mark ∷ back)) ⊎ ((bs ≡ front) × (back ≡ []))

abbrev pub after_spaces : List (List ℕ) → List ℕ
after_spaces [] = []
after_spaces (w ∷ ws) = 32 ∷ (w ++ after_spaces ws)

abbrev pub spaced : List (List ℕ) → List ℕ
spaced [] = []
spaced (w ∷ ws) = w ++ after_spaces ws

pub record WordsOf (line : List ℕ) (ws : List (List ℕ)) : Type 0 where
  pub free : All (Without 32) ws
  pub joined : spaced ws ≡ line
