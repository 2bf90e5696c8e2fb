use Rattle.std.proofs.Common.{◌≡◌, true, List, is_ok, vec_items, sym, ◌∙◌, subst, arith, rules}
use Rattle.std.specs.List.{insert}
use Rattle.std.proofs.lemmas.Bool.Decides.{nat_tests}
use Rattle.bolts.specs.Loads.{loaded}
use Rattle.bolts.specs.Bolts.{Spaced, Sound, clear}
use Rattle.bolts.specs.Placing.{Joined}
use Rattle.bolts.specs.declared.bolt.Bolt.{Bolt}
use Rattle.bolts.proofs.Rows.{Slot}
use Rattle.bolts.proofs.Placed.{placed_is, spaced_inserted, sound_inserted, placed_joins}
use Rattle.bolts.proofs.table.BoltTable.place.Goals as goal
use Rattle.bolts.proofs.table.BoltTable.place.Goals.{After-insert}

abbrev row : goal.After-insert → List Bolt
row c = vec_items c.args.self.now.bolts

belongs : (c : goal.After-insert) → Slot (row c) c.args.bolt.position c.slot-i.result
belongs c =
    let e = c.deref-2.ensures.value in
    let s = c.slot-i.ensures in
    record { within = search rules; before = rw e at s.before; stop = rw e at s.stop }

is_clear : (c : goal.After-insert) → clear c.args.bolt.position (row c) ≡ true
is_clear c = rw c.deref.ensures.value at (sym c.is_clear.ensures ∙ c.if-not-is_clear.false)

is_loaded : (c : goal.After-insert) → loaded c.args.bolt ≡ true
is_loaded c = sym c.is_loaded.ensures ∙ c.if-not-is_loaded.false

went_in : (c : goal.After-insert) → vec_items c.insert.new.self ≡ insert (row c) c.slot-i.result c.args.bolt
went_in c =
    let ok : is_ok c.insert.result ≡ true = c.insert.ensures.succeeds (omega arith) in
    simp ok at c.insert.ensures.items

pub invariant_of-self : goal.invariant_of-self
invariant_of-self c =
    let s = c.args.self.now.spaced in
    let spaced = spaced_inserted _ _ _ s (belongs c) (is_clear c) in
    let sound = sound_inserted _ _ _ s (belongs c) (is_clear c) _ c.args.self.now.sound c.if-bolt-self.false (is_loaded c) in
    record {
      short = search rules;
      few = search rules;
      room = search rules;
      spaced = subst Spaced (sym (went_in c)) spaced;
      sound = subst (Sound _) (sym (went_in c)) sound;
    }

pub returns : goal.returns
returns c =
    let i = (goal.at.returns c).After-insert in
    let f = is_clear i in
    let l = is_loaded i in
    let now = went_in i ∙ placed_is _ _ _ c.args.self.now.spaced (belongs i) f in
    record {
      answer = grind (arith, nat_tests);
      after = now;
      reach = search rules;
      joined = λ _. subst (Joined c.args.bolt (row i)) (sym now) (placed_joins c.args.bolt (row i) f);
    }
