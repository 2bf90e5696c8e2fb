-- Which numbers the lines of concrete hold, and their reductions, the innermost first. Lengths are in tenths, partial
-- factors γ in hundredths, factors k in tenths.
--   IsCone d k f h m γ c                 the cone in the direction d, with its multiple m
--   IsEdge e k f c b p γ m               the edge by the edition e
--   IsRoot a b P r, IsStraight a b P r   a reduction of a over b in µm, over a mode with P
--   IsCorner first last b P r            a corner reduction
--   is_dense dense h                     reinforcement is dense, and the embedment depth h is below 100 mm
--   IsDense dense h P m                  then the straight reduction of 100·(1,000 + h) over 200,000, else none
--   IsConeLine P h t m                   a cone with P at the depth h, under all of its reductions on the site t
--   IsEdgeLine P w h t m                 an edge with P, under all of its reductions
use Rattle.std.specs.Prelude.{◌≡◌, ℕ, ◌+◌, ◌*◌, Bool, true, false, ◌&&◌, Some, None, Option, nat_lt}
use Rattle.bolts.specs.declared.bolt.Direction.{Direction}
use Rattle.forces.specs.Cases.{um}
use Rattle.failure.specs.declared.reduced.Reduced.{Reduced}
use Rattle.failure.specs.declared.root.Root.{Root}
use Rattle.failure.specs.declared.straight.Straight.{Straight}
use Rattle.failure.specs.declared.corner.Corner.{Corner}
use Rattle.concrete.specs.Cone.{cone_edge}
use Rattle.concrete_modes.specs.declared.cone.Cone.{Cone}
use Rattle.concrete_modes.specs.declared.edge.EdgeBasis.{EdgeBasis}
use Rattle.concrete_modes.specs.declared.edge.first.FirstEdge.{FirstEdge}
use Rattle.concrete_modes.specs.declared.edge.second.SecondEdge.{SecondEdge}
use Rattle.certificate.specs.declared.fields.Edition.{Edition}
use Rattle.certificate.specs.declared.fields.Edition.TheVariants as edition
use Rattle.site.specs.declared.site.Site.{Site}
use Rattle.rating.specs.declared.edition.ByEdition.{ByEdition}
use Rattle.rating.specs.declared.edition.ByEdition.TheVariants.{First, Second}

pub record IsCone (d : Direction) (k f h m γ : ℕ) (c : Cone) : Type 0 where
  pub direction : c.direction ≡ d
  pub k_is : c.basis.k ≡ k
  pub strength : c.basis.strength ≡ f
  pub depth : c.basis.depth ≡ h
  pub multiple : c.basis.multiple ≡ m
  pub factor : c.factor.hundredths ≡ γ

pub record IsBasis (k f c b p : ℕ) (e : EdgeBasis) : Type 0 where
  pub k_is : e.k ≡ k
  pub strength : e.strength ≡ f
  pub distance : e.distance ≡ c
  pub width : e.width ≡ b
  pub p_is : e.p ≡ p

abbrev pub IsEdge : Edition → ℕ → ℕ → ℕ → ℕ → ℕ → ℕ → ByEdition FirstEdge SecondEdge → Type 0
IsEdge edition.First k f c b p γ (First m) = IsBasis k f c b p m.basis × (m.factor.hundredths ≡ γ)
IsEdge edition.First k f c b p γ (Second m) = ⊥
IsEdge edition.Second k f c b p γ (First m) = ⊥
IsEdge edition.Second k f c b p γ (Second m) = IsBasis k f c b p m.basis × (m.factor.hundredths ≡ γ)

abbrev pub IsRoot : {M : Type 0} → ℕ → ℕ → (M → Type 0) → Reduced M Root → Type 0
IsRoot a b P r = (r.rule.distances.a ≡ a) × (r.rule.distances.b ≡ b) × P r.below

abbrev pub IsStraight : {M : Type 0} → ℕ → ℕ → (M → Type 0) → Reduced M Straight → Type 0
IsStraight a b P r = (r.rule.distances.a ≡ a) × (r.rule.distances.b ≡ b) × P r.below

abbrev pub IsCorner : {M : Type 0} → ℕ → ℕ → ℕ → (M → Type 0) → Reduced M Corner → Type 0
IsCorner first last b P r = (r.rule.first ≡ first) × (r.rule.last ≡ last) × (r.rule.b ≡ b) × P r.below

abbrev pub is_dense : Bool → ℕ → Bool
is_dense dense h = dense && nat_lt h 1000

-- t says whether there is a rule
abbrev pub DenseRule : Bool → ℕ → Option Straight → Type 0
DenseRule t h None = t ≡ false
DenseRule t h (Some s) = (t ≡ true) × (s.distances.a ≡ 100 * (1000 + h)) × (s.distances.b ≡ 200000)

abbrev pub IsDense : {M : Type 0} → Bool → ℕ → (M → Type 0) → Reduced M (Option Straight) → Type 0
IsDense dense h P m = DenseRule (is_dense dense h) h m.rule × P m.below

abbrev pub IsConeLine : (Cone → Type 0) → ℕ → Site → Reduced (Reduced (Reduced Cone Root) Corner) (Option Straight) → Type 0
IsConeLine P h t m =
    IsDense t.dense h
    (IsCorner (um t.left_corner) (um t.right_corner) (cone_edge h) (IsRoot (um t.edge_distance) (cone_edge h) P))
    m

-- w and h the channel's width and height
abbrev pub IsEdgeLine : {M : Type 0} → (M → Type 0) → ℕ → ℕ → Site → Reduced (Reduced M Corner) Root → Type 0
IsEdgeLine P w h t m =
    IsRoot (um t.thickness) (2 * um t.edge_distance + 2 * um h)
    (IsCorner (um t.left_corner) (um t.right_corner) (2 * um t.edge_distance + um w) P)
    m
