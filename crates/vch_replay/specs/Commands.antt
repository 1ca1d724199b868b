-- The forms of words.
use Rattle.std.specs.Prelude.{ℕ, ◌^◌, if◌then◌else◌, List, [], ◌∷◌, Option, Some, None, codes}
use Rattle.vch_base.specs.Values.{equal_lists}
use Rattle.vch_replay.specs.declared.command.Command.{Command}
use Rattle.vch_replay.specs.declared.command.Command.TheVariants.{Check, Play, PlaySeed, Recipe, Header, Certify, Load}
use Rattle.vch_report.specs.Numerals.{below}

unfoldable pub command_in : List ℕ → Option Command
command_in word =
    if equal_lists word (codes "check") then Some Check
    else if equal_lists word (codes "play") then Some Play
    else if equal_lists word (codes "recipe") then Some Recipe
    else if equal_lists word (codes "header") then Some Header
    else if equal_lists word (codes "certify") then Some Certify
    else None

-- a run by a seed
abbrev pub with_seed : Option ℕ → Option Command
with_seed None = None
with_seed (Some seed) = Some (PlaySeed seed)

-- a generated scenario
abbrev pub with_load : Option ℕ → Option Command
with_load None = None
with_load (Some n) = Some (Load n)

-- the word of a run and a seed, or `load` and a number, each below 2 to the 64
unfoldable pub numbered : List ℕ → List ℕ → Option Command
numbered word number =
    if equal_lists word (codes "play") then with_seed (below (2 ^ 64) number)
    else if equal_lists word (codes "load") then with_load (below (2 ^ 64) number)
    else None

-- one word, or a word and its number
abbrev pub command_of : List (List ℕ) → Option Command
command_of [] = None
command_of (word ∷ []) = command_in word
command_of (word ∷ number ∷ []) = numbered word number
command_of (word ∷ number ∷ other ∷ words) = None

-- a command that reads its input: all but `load`
abbrev pub Reads : Command → Type 0
Reads Check = Unit {0}
Reads Play = Unit {0}
Reads (PlaySeed seed) = Unit {0}
Reads Recipe = Unit {0}
Reads Header = Unit {0}
Reads Certify = Unit {0}
Reads (Load n) = ⊥

-- so of words that may be no form
abbrev pub WordsRead : Option Command → Type 0
WordsRead None = ⊥
WordsRead (Some command) = Reads command
