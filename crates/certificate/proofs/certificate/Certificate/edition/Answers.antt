use Rattle.std.proofs.Common.{ap, ◌∙◌, rules}
use Rattle.certificate.specs.Editions.{edition_named}
use Rattle.certificate.proofs.Sound.{names_edition}
use Rattle.certificate.proofs.certificate.Certificate.edition.Goals as goal

pub unwrap-requires : goal.unwrap-requires
unwrap-requires c =
    let e = c.try_from.ensures ∙ ap edition_named c.byte_at.ensures ∙ names_edition c.args.self.now.bytes.now c.args.self.now.accepted in
    rw e (search rules)
