-- The text of a drill. It is this project's own.
use Rattle.std.specs.Prelude.{ℕ, ◌*◌, min, List, ◌++◌, codes}
use Rattle.vch_model.specs.Text.{spaced, newline}
use Rattle.vouch_drill.specs.Counts.{slot_count}
use Rattle.vouch_drill.specs.declared.counts.Counts.{Counts}

abbrev pub line : List ℕ → ℕ → List ℕ
line word n = word ++ spaced n ++ newline

-- what so many rounds were answered
unfoldable pub counts_text : ℕ → Counts → List ℕ
counts_text rounds counts =
    line (codes "made") rounds ++ line (codes "makes") counts.makes ++ line (codes "dead") counts.dead ++ line (codes "released") counts.released ++ line (codes "raced") counts.raced ++ codes "end" ++ newline

-- two seats do n makes each, none of a released slot; then each slot with a count is released, and nobody races
unfoldable pub made_text : ℕ → List ℕ
made_text n = counts_text n (record { makes = 2 * n; dead = 0; released = min n slot_count; raced = 0 })
