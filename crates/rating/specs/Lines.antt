-- The lines of a channel: edition e, geometry g, values v and partial factors f of its certificate, the strength factor ψ
-- of the site's concrete, and the site t.
--   cone_factor g s, edge_factor g s     the factor k for cracked or uncracked concrete
--   ChannelSheet                         a sheet of the thirteen modes
--   IsSheet e g v f ψ t s                each line of the sheet s holds the numbers that its rule names
use Rattle.std.specs.Prelude.{ℕ, Option}
use Rattle.bolts.specs.declared.bolt.Direction.TheVariants.{Tension, Shear}
use Rattle.certificate.specs.declared.fields.Edition.{Edition}
use Rattle.certificate.specs.declared.fields.Geometry.{Geometry}
use Rattle.certificate.specs.declared.fields.CharacteristicValues.{CharacteristicValues}
use Rattle.certificate.specs.declared.fields.PartialFactors.{PartialFactors}
use Rattle.certificate.specs.declared.lookup.Concrete.{Concrete}
use Rattle.certificate.specs.declared.lookup.Concrete.TheVariants.{Cracked, Uncracked}
use Rattle.failure.specs.declared.reduced.Reduced.{Reduced}
use Rattle.failure.specs.declared.root.Root.{Root}
use Rattle.failure.specs.declared.straight.Straight.{Straight}
use Rattle.failure.specs.declared.corner.Corner.{Corner}
use Rattle.steel_modes.specs.declared.anchor.AnchorSteel.{AnchorSteel}
use Rattle.steel_modes.specs.declared.bolt.BoltSteel.{BoltSteel}
use Rattle.steel_modes.specs.declared.lip.Lip.{Lip}
use Rattle.steel_modes.specs.declared.flexure.Flexure.{Flexure}
use Rattle.steel_modes.specs.declared.pullout.PullOut.{PullOut}
use Rattle.concrete_modes.specs.declared.cone.Cone.{Cone}
use Rattle.concrete_modes.specs.declared.edge.first.FirstEdge.{FirstEdge}
use Rattle.concrete_modes.specs.declared.edge.second.SecondEdge.{SecondEdge}
use Rattle.sheet.specs.declared.lines.Sheet.{Sheet}
use Rattle.site.specs.declared.site.Site.{Site}
use Rattle.rating.specs.Modes.{IsAnchorSteel, IsBoltSteel, IsLip, IsFlexure, IsPullOut}
use Rattle.rating.specs.Concrete.{IsCone, IsEdge, IsConeLine, IsEdgeLine}
use Rattle.rating.specs.declared.edition.ByEdition.{ByEdition}

abbrev pub cone_factor : Geometry → Concrete → ℕ
cone_factor g Cracked = g.cone_factor_cracked
cone_factor g Uncracked = g.cone_factor_uncracked

abbrev pub edge_factor : Geometry → Concrete → ℕ
edge_factor g Cracked = g.edge_factor_cracked
edge_factor g Uncracked = g.edge_factor_uncracked

abbrev pub ConeLine : Type 0
ConeLine = Reduced (Reduced (Reduced Cone Root) Corner) (Option Straight)

abbrev pub EdgeLine : Type 0
EdgeLine = Reduced (Reduced (ByEdition FirstEdge SecondEdge) Corner) Root

abbrev pub ChannelSheet : Type 0
ChannelSheet = Sheet AnchorSteel AnchorSteel Lip BoltSteel Flexure PullOut ConeLine BoltSteel Lip AnchorSteel AnchorSteel ConeLine EdgeLine

pub record IsSheet (e : Edition) (g : Geometry) (v : CharacteristicValues) (f : PartialFactors) (ψ : ℕ) (t : Site) (s : ChannelSheet) : Type 0 where
  pub anchor : IsAnchorSteel Tension v.anchor f.anchor s.line1
  pub connection : IsAnchorSteel Tension v.connection f.connection s.line2
  pub lip : IsLip Tension v.lip f.lip g.lip_spacing_tension s.line3
  pub bolt : IsBoltSteel Tension v.bolt f.bolt s.line4
  pub flexure : IsFlexure v.flexure f.flexure s.line5
  pub pull_out : IsPullOut v.pullout ψ f.concrete s.line6
  pub cone : IsConeLine (IsCone Tension (cone_factor g t.concrete) t.strength g.embedment_depth 10 f.concrete) g.embedment_depth t s.line7
  pub bolt_shear : IsBoltSteel Shear v.bolt_shear f.bolt_shear s.line8
  pub lip_shear : IsLip Shear v.lip_shear f.lip_shear g.lip_spacing_shear s.line9
  pub anchor_shear : IsAnchorSteel Shear v.anchor_shear f.anchor_shear s.line10
  pub connection_shear : IsAnchorSteel Shear v.connection_shear f.connection_shear s.line11
  pub pry_out : IsConeLine (IsCone Shear (cone_factor g t.concrete) t.strength g.embedment_depth g.pryout_factor f.concrete) g.embedment_depth t s.line12
  pub edge : IsEdgeLine (IsEdge e (edge_factor g t.concrete) t.strength t.edge_distance g.channel_width t.edge_factor f.concrete) g.channel_width g.channel_height t s.line13
