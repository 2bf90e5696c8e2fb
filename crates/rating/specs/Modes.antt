-- Which numbers a mode holds. Partial factors γ are in hundredths.
--   IsAnchorSteel d v γ m      the steel of an anchor in the direction d with the value v in N
--   IsBoltSteel d v γ m        the steel of a bolt
--   IsLip d v γ s m            the lips, with the spacing s in tenths
--   IsFlexure v γ m            the bending, with the value v in newton-metres
--   IsPullOut v ψ γ m          the pull-out, with the strength factor ψ in hundredths
use Rattle.std.specs.Prelude.{◌≡◌, ℕ}
use Rattle.bolts.specs.declared.bolt.Direction.{Direction}
use Rattle.steel_modes.specs.declared.anchor.AnchorSteel.{AnchorSteel}
use Rattle.steel_modes.specs.declared.bolt.BoltSteel.{BoltSteel}
use Rattle.steel_modes.specs.declared.lip.Lip.{Lip}
use Rattle.steel_modes.specs.declared.flexure.Flexure.{Flexure}
use Rattle.steel_modes.specs.declared.pullout.PullOut.{PullOut}

pub record IsAnchorSteel (d : Direction) (v γ : ℕ) (m : AnchorSteel) : Type 0 where
  pub direction : m.direction ≡ d
  pub value : m.value ≡ v
  pub factor : m.factor.hundredths ≡ γ

pub record IsBoltSteel (d : Direction) (v γ : ℕ) (m : BoltSteel) : Type 0 where
  pub direction : m.direction ≡ d
  pub value : m.value ≡ v
  pub factor : m.factor.hundredths ≡ γ

pub record IsLip (d : Direction) (v γ s : ℕ) (m : Lip) : Type 0 where
  pub direction : m.direction ≡ d
  pub value : m.value ≡ v
  pub factor : m.factor.hundredths ≡ γ
  pub spacing : m.spacing ≡ s

pub record IsFlexure (v γ : ℕ) (m : Flexure) : Type 0 where
  pub value : m.value ≡ v
  pub factor : m.factor.hundredths ≡ γ

pub record IsPullOut (v ψ γ : ℕ) (m : PullOut) : Type 0 where
  pub value : m.value ≡ v
  pub strength : m.strength ≡ ψ
  pub factor : m.factor.hundredths ≡ γ
