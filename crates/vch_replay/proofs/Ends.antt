-- How the statuses of the top call follow from what was read and written.
use Rattle.std.proofs.Common.{◌≡◌, ◌≤◌, ℕ, List, ◌++◌, length, refl, sym, ap, ◌∙◌, arith, subst, Option, Some, None, IfSome, inr, append-nil}
use Rattle.std.specs.Io.KnownBytes.{Consumes, IsAtEnd}
use Rattle.vch_replay.specs.declared.command.Command.{Command}
use Rattle.vch_replay.specs.declared.command.Command.TheVariants as commands
use Rattle.vch_replay.specs.Commands.{Reads}
use Rattle.vch_replay.specs.Input.{limit, EachReadGave, GaveAtMost, GaveTooMuch}
use Rattle.vch_base.specs.Stream.{WritesPrefix}
use Rattle.vch_replay.specs.Run.{IsGoodInput, IsIn, Refuses, WritesPart}

-- short input is not too long
pub good_short : (command : Command) (left rest : Option (List ℕ)) → IsGoodInput command left → GaveTooMuch left rest → ⊥
good_short command None rest good much = good
good_short command (Some input) None good much = much
good_short command (Some input) (Some rest) good much = let short : length input ≤ limit = good.1 in omega arith

-- all that was left is what was read to the end
pub all_read : (all input rest : List ℕ) → Consumes (Some all) (Some rest) input → IsAtEnd (Some rest) → all ≡ input
all_read all input rest c e = c ∙ ap (λ l. input ++ l) e ∙ append-nil input

-- a prefix of the line of a refusal
pub part_refused : (command : Command) (left rest : Option (List ℕ)) (input line : List ℕ) (old new : Option (List ℕ)) → Consumes left rest input → IsAtEnd rest
    → Refuses command input line → length input ≤ limit → WritesPrefix old new line → IfSome left (λ all. WritesPart (Some command) all old new)
part_refused command None rest input line old new c e refused short p = tt
part_refused command (Some all) None input line old new c e refused short p = absurd c
part_refused command (Some all) (Some rest) input line old new c e refused short p =
    subst (λ (x : List ℕ). WritesPart (Some command) x old new) (sym (all_read all input rest c e)) (line, inr refused, short, p)

-- input in a command's grammar is not refused
pub good_refused : (command : Command) (left rest : Option (List ℕ)) (input line : List ℕ) → Consumes left rest input → IsAtEnd rest → Refuses command input line
    → ((x : List ℕ) → IsIn command x → Refuses command x line → ⊥) → IsGoodInput command left → ⊥
good_refused command None rest input line c e refused apart good = good
good_refused command (Some all) None input line c e refused apart good = c
good_refused command (Some all) (Some rest) input line c e refused apart good =
    apart input (subst (λ (x : List ℕ). IsIn command x) (all_read all input rest c e) good.0) refused

-- a command that is not `load` reads
pub reads_of : (command : Command) → ((n : ℕ) → command ≡ commands.Load n → ⊥) → Reads command
reads_of commands.Check other = tt
reads_of commands.Play other = tt
reads_of (commands.PlaySeed seed) other = tt
reads_of commands.Recipe other = tt
reads_of commands.Header other = tt
reads_of commands.Certify other = tt
reads_of (commands.Load n) other = other n refl

-- what reads nothing gave nothing
pub gave_none : (most : ℕ) (left : Option (List ℕ)) → GaveAtMost most left left
gave_none most None = tt
gave_none most (Some input) = omega arith

pub none_each : (left : Option (List ℕ)) (reads : ℕ) → EachReadGave left left reads reads
none_each None reads = tt
none_each (Some input) reads = omega arith
