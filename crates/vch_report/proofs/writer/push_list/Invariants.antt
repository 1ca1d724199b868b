use Rattle.std.proofs.Common.{◌≡◌, ◌++◌, take}
use Rattle.vch_report.proofs.words.ChainWords.{chain_text}
use Rattle.vch_report.proofs.writer.push_list.Given as goal

abbrev pub invariant-loop-i : goal.invariant-loop-i
invariant-loop-i l = l.out.items ≡ l.initial.out.items ++ chain_text (take l.i l.list)
