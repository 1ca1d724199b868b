use Rattle.std.proofs.Common.{◌≡◌, take, fold}
use Rattle.vch_books.specs.Living.{fed_words}
use Rattle.vch_books.proofs.content.feed_tasks.Given as goal

abbrev pub invariant-loop-i : goal.invariant-loop-i
invariant-loop-i g l = l.state ≡ fold g.H.Hasher.write l.initial.state (fed_words (take l.i l.list))
