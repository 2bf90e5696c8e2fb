use Rattle.std.proofs.Common.{All, ◌≡◌, ◌+◌, ◌*◌, ◌++◌, length, take}
use Rattle.std.specs.List.{flat_map}
use Rattle.certificate.specs.Drafts.{drafted}
use Rattle.certificate.proofs.draft.put.Given as goal

abbrev pub invariant-loop-item : goal.invariant-loop-item
invariant-loop-item g l = record {
  after : drafted l.draft ≡ drafted l.initial.draft ++ flat_map g.T.Encode.encoded (take l.item-index l.items);
  count : length (drafted l.draft) ≡ length (drafted l.initial.draft) + g.row.N * l.item-index;
  fits : All g.T.Encode.fits (take l.item-index l.items);
}
