use Rattle.std.proofs.Common.{◌≡◌, None, subst}
use Rattle.vch_table.specs.Indices.{index_at}
use Rattle.vch_frame.proofs.CallerLemmas.{room_for}
use Rattle.vch_creating.proofs.change.put.Goals as goal

pub set-requires : goal.set-requires
set-requires c some none = room_for c.args.map.now c.args.key c.requires.keyed (subst (λ n. index_at c.args.map.now n ≡ None) c.number-2.ensures none)
