use Rattle.std.proofs.Common.{◌≡◌, ℕ, List, ◌∷◌, Some, None, Option, sym, refl, ap, ◌∙◌, Bor}
use Rattle.std.specs.Option.{option_map}
use Rattle.text_pieces.specs.Pieces.{words, words_after}
use Rattle.certificate_text.specs.Lines.{two_numbers, both, bounded}
use Rattle.certificate_text.proofs.WordRuns.{two_words}
use Rattle.certificate_text.proofs.line.pair_in.Goals as goal
use Rattle.certificate_text.proofs.line.pair_in.Goals.{In_ok-rest}

-- the first word is a strength, the rest a factor
pair : (c : In_ok-rest) → two_numbers (words c.args.bytes.now) ≡ both (bounded 65535 c.cut_word-cut.result.word.now) (bounded 65535 c.in_ok-rest.rest.now)
pair c =
    let w : List ℕ = c.cut_word-cut.result.word.now in
    let e = c.cut_word-cut.ensures.words ∙ ap (λ (o : Option (Bor (List ℕ))). w ∷ words_after (option_map (λ x. x.now) o)) c.in_ok-rest.was in
    ap two_numbers e ∙ two_words w c.in_ok-rest.rest.now

pub returns-in_err-factor : goal.returns-in_err-factor
returns-in_err-factor c =
    let p = pair (goal.at.returns-in_err-factor c).In_ok-rest in
    let e = sym c.short_in.ensures ∙ c.in_ok-strength.was in
    let f = sym c.short_in-2.ensures ∙ c.in_err-factor.was in
    let g : both (Some c.in_ok-strength.strength) None ≡ None = refl in
    c.from_residual-in_err-factor.ensures ∙ sym (p ∙ cc)

pub returns : goal.returns
returns c =
    let p = pair (goal.at.returns c).In_ok-rest in
    let e = sym c.short_in.ensures ∙ c.in_ok-strength.was in
    let f = sym c.short_in-2.ensures ∙ c.in_ok-factor.was in
    let g : both (Some c.in_ok-strength.strength) (Some c.in_ok-factor.factor) ≡ Some (record { strength = c.in_ok-strength.strength; factor = c.in_ok-factor.factor }) = refl in
    sym (p ∙ cc)
