-- Every case of the code is a valid case.
use Rattle.std.proofs.Common.{◌≡◌, ℕ, ◌<◌, ◌≤◌, true, ◌∙◌, subst, arith}
use Rattle.std.specs.List.{Contains}
use Rattle.std.proofs.lemmas.List.{get_or_default}
use Rattle.bolts.specs.Bolts.{no_bolt, Sound}
use Rattle.bolts.specs.Loads.{load_of, loaded}
use Rattle.bolts.specs.Tables.{reaches}
use Rattle.bolts.specs.declared.bolt.Bolt.{Bolt}
use Rattle.bolts.specs.declared.bolt.Direction.{Direction}
use Rattle.bolts.proofs.Bounds.{load_bound}
use Rattle.forces.specs.Shares.{distances, spread}
use Rattle.forces.specs.Cases.{Valid, um}
use Rattle.forces.proofs.Spreads.{spread_long}
use Rattle.forces.proofs.Whole.{within}
use Rattle.loadcase.specs.Held.{opening_of, case_of, bolts_of}
use Rattle.loadcase.specs.declared.open.OpenCase.{OpenCase}

pub valid_of : (c : OpenCase) → Valid (case_of c)
valid_of c =
    record {
      opened = record { two = c.two; twelve = c.twelve; wide = c.channel.in_range.wide; narrow = c.channel.in_range.narrow; stiff = c.channel.in_range.stiff; slender = c.channel.in_range.slender };
      few = omega (arith, c.table.few, c.table.bolts.ok.0);
      spaced = c.table.spaced;
      sound = subst (λ (r : ℕ). Sound r (bolts_of c)) c.reach c.table.sound;
    }

module _ (c : OpenCase) (b : Bolt) (held : Contains (bolts_of c) b) where
  sound : (b.position ≤ reaches c.table) × (loaded b ≡ true)
  sound =
      let is = get_or_default (bolts_of c) held.0 no_bolt b held.1 ∙ held.2 in
      subst (λ (x : Bolt). (x.position ≤ reaches c.table) × (loaded x ≡ true)) is (c.table.sound held.0 held.1)

  pub load_of_held : (d : Direction) → load_of d b ≤ 200000
  load_of_held d = load_bound d b sound.1

  -- its load has a spread to be divided by
  pub spread_pos : 0 < spread c.length (distances c.anchors (um c.channel.spacing) (um b.position))
  spread_pos =
      let inside = within (opening_of c) (valid_of c).opened b (omega (arith, sound.0, c.reach)) in
      omega (arith, spread_long c.anchors (um c.channel.spacing) (um b.position) c.length (omega (arith, c.two)) inside c.wider, c.long)
