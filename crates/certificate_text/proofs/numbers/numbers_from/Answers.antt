use Rattle.std.proofs.Common.{rules, ◌≡◌, refl}
use Rattle.certificate.specs.Writing.{geometry_shorts, values_list, factors_list}
use Rattle.certificate_text.proofs.numbers.numbers_from.Goals as goal

pub returns : goal.returns
returns c =
    let a : c.copy_from_slice.new.self ≡ geometry_shorts c.args.g = search rules in
    let v : c.copy_from_slice-2.new.self ≡ values_list c.args.v = search rules in
    let f : c.copy_from_slice-3.new.self ≡ factors_list c.args.f = search rules in
    let e = c.from.ensures in
    let h = c.from-2.ensures in
    rw (a, v, f, h, e) refl
