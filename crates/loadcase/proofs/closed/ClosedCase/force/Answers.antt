use Rattle.std.proofs.Common.{◌≡◌, Bool, true, false, cond, Some, None, Option, IfSome, ltb, ltb-true, refl, arith}
use Rattle.std.proofs.lemmas.Grind.{common_steps}
use Rattle.forces.specs.Exact.{force, NeverBelow, HardlyAbove}
use Rattle.forces.proofs.Exactness.{accurate, bounded}
use Rattle.loadcase.specs.Closed.{closed_case}
use Rattle.loadcase.proofs.Validity.{valid_of}
use Rattle.loadcase.proofs.closed.ClosedCase.force.Goals as goal

where_true : {X : Type 0} (P : X → Type 0) (b : Bool) (x : X) (r : Option X) → r ≡ cond b (Some x) None → (b ≡ true → P x) → IfSome r P
where_true P true x r e h = rw e (h refl)
where_true P false x r e h = rw e tt

pub returns : goal.returns
returns c =
    let x = closed_case c.args.self.now in
    let k = c.args.k in
    let d = c.args.direction in
    let valid = valid_of c.args.self.now.within in
    let all = accurate x d valid in
    let value : c.map.result ≡ cond (ltb k x.opening.anchors) (Some (force x d k)) None = grind (arith, common_steps) in
    record {
      value = value;
      never_below = where_true (NeverBelow x d k) _ _ _ value (λ t. all.never_below k (ltb-true _ _ t));
      hardly_above = where_true (HardlyAbove x d k) _ _ _ value (λ t. all.hardly_above k (ltb-true _ _ t));
      bounded = bounded x d valid;
    }
