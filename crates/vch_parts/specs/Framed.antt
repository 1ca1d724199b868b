-- What each task works at.
use Rattle.std.specs.Prelude.{ℕ, ◌+◌, zero, suc, List, [], ◌∷◌, Option, None}
use Rattle.vch_base.specs.Tasks.{at_task, set_task}
use Rattle.vch_parts.specs.declared.frame.Frame.{Frame}
use Rattle.vch_parts.specs.declared.frames.Working.{Working}

-- a task that works at nothing
abbrev pub resting : Working
resting = record { begun = 0; frame = None }

-- what a task works at, its frame, and how many calls it has begun
abbrev pub working_of : List Working → ℕ → Working
working_of frames t = at_task frames t resting

abbrev pub frame_of : List Working → ℕ → Option Frame
frame_of frames t = (working_of frames t).frame

abbrev pub begun_of : List Working → ℕ → ℕ
begun_of frames t = (working_of frames t).begun

-- with another frame of a task, or none
abbrev pub with_frame_of : List Working → ℕ → Option Frame → List Working
with_frame_of frames t f = set_task frames t (record (working_of frames t) { frame = f })

-- with one call more that a task has begun
abbrev pub with_begun_of : List Working → ℕ → List Working
with_begun_of frames t = set_task frames t (record (working_of frames t) { begun = begun_of frames t + 1 })

-- so many tasks that have begun no call
abbrev pub all_resting : ℕ → List Working
all_resting zero = []
all_resting (suc n) = resting ∷ all_resting n
