-- Each generated scenario is within the limits and has a text.
use Rattle.std.proofs.Common.{◌≡◌, ◌≤◌, ◌<◌, ◌+◌, ◌*◌, ◌%◌, ◌^◌, ℕ, zero, suc, List, [], ◌∷◌, ◌++◌, length, replicate, refl, sym, ap, subst, ◌∙◌, inl, inr, arith}
use Rattle.std.specs.List.{AllByRecursion}
use Rattle.std.proofs.lemmas.List.{length-append}
use Rattle.hex.specs.Hex.{IsBytes}
use Rattle.vch_base.specs.Tasks.{at_task}
use Rattle.vch_base.specs.Words.{word}
use Rattle.vch_base.specs.declared.limits.TheConstants.{USUAL_QUEUE}
use Rattle.vch_machine.specs.Schedules.{next_seed}
use Rattle.vch_model.specs.declared.call.Call.TheVariants as calls
use Rattle.vch_model.specs.declared.call.Line.{Line}
use Rattle.vch_model.specs.Canonical.{IsWritable, HasBytes}
use Rattle.vch_model.specs.Scenarios.{IsIn, IsQueueOf, IsLimited}
use Rattle.vch_base.specs.declared.commands.TheConstants as commands
use Rattle.vch_legal.proofs.CallerLemmas.{no_bytes, bytes_joined, word_bytes, spelling_bytes}
use Rattle.vch_generate.specs.Generated.{array, record_of, groups, groups_from, group, lines_of, generated, drawn_maker, drawn_content, taker, tasks, names_after, maker}
use Rattle.vch_generate.specs.Generating.{AreFew}
use Rattle.vch_generate.proofs.FewNames.{maker_task, taker_task, few_after, few_at_start}

-- a line is one of version 1 and of one of the eight tasks, and what it has are bytes
abbrev pub IsWritten : Line → Type 0
IsWritten l = IsIn 1 tasks l × HasBytes l.call

all_joined : (a b : List Line) → AllByRecursion IsWritten a → AllByRecursion IsWritten b → AllByRecursion IsWritten (a ++ b)
all_joined [] b f g = g
all_joined (x ∷ a) b f g = (f.0, all_joined a b f.1 g)

record_bytes : (key command : ℕ) (content : List ℕ) → IsBytes content → IsBytes (record_of key command content)
record_bytes key command content e = spelling_bytes (record { key = key; command = command; previous = 0; content = content }) e

array_bytes : (content : ℕ) → IsBytes (array content)
unfolding array
array_bytes content =
    bytes_joined (record_of 3 commands.BANK_CREATE []) (record_of 2 commands.IMPORTANCE_SELF [] ++ record_of 7 commands.USER_DATA_STORE (word content))
    (record_bytes 3 commands.BANK_CREATE [] no_bytes)
    (bytes_joined (record_of 2 commands.IMPORTANCE_SELF []) (record_of 7 commands.USER_DATA_STORE (word content))
    (record_bytes 2 commands.IMPORTANCE_SELF [] no_bytes) (record_bytes 7 commands.USER_DATA_STORE (word content) (word_bytes content)))

group_written : (i a b content x y : ℕ) → i < 1024 → (1 ≤ a) × (a ≤ tasks) → (1 ≤ b) × (b ≤ tasks) → x < 4294967296 → y < 4294967296
    → AllByRecursion IsWritten (group i a b content x y)
group_written i a b content x y e f g h k =
    let small : i < 4294967296 = omega (arith, e) in
    let b_small : b < 4294967296 = let g1 = g.1 in omega (arith, g1) in
    let one : 1 < 4294967296 = omega arith in (
      ((f.0, f.1, tt, tt), array_bytes content),
      (
        ((f.0, f.1, (b_small, h, small), tt), tt),
        (
          ((g.0, g.1, tt, tt), tt),
          (
            ((g.0, g.1, (k, small), tt), tt),
            (
              ((g.0, g.1, (k, one), tt), tt),
              (
                ((g.0, g.1, tt, tt), tt),
                (
                  ((g.0, g.1, k, tt), tt),
                  (((f.0, f.1, h, tt), tt), tt),
                ),
              ),
            ),
          ),
        ),
      ),
    )

groups_written : (n i seed : ℕ) (names : List ℕ) → i + n ≤ groups → AreFew i names → AllByRecursion IsWritten (groups_from n i seed names)
groups_written zero i seed names e few = tt
groups_written (suc n) i seed names e few =
    all_joined (group i a (taker a) (drawn_content seed) (at_task more a 0) (at_task more (taker a) 0)) (groups_from n (i + 1) (next_seed (next_seed seed)) more)
    (group_written i a (taker a) (drawn_content seed) (at_task more a 0) (at_task more (taker a) 0) (omega (arith, e)) a_in (taker_task a)
    (small a) (small (taker a)))
    (groups_written n (i + 1) (next_seed (next_seed seed)) more (omega (arith, e)) after)
  where
    a : ℕ
    a = drawn_maker seed

    more : List ℕ
    more = names_after names a

    a_in : (1 ≤ a) × (a ≤ tasks)
    a_in = maker_task _

    after : AreFew (i + 1) more
    after = few_after i names a a_in.0 a_in.1 few

    small : (t : ℕ) → at_task more t 0 < 4294967296
    small t = let f = after.few t in omega (arith, e, f)

groups_long : (n i seed : ℕ) (names : List ℕ) → length (groups_from n i seed names) ≡ 8 * n
groups_long zero i seed names = refl
groups_long (suc n) i seed names =
    let f : length (groups_from n (i + 1) (next_seed (next_seed seed)) (names_after names (drawn_maker seed))) ≡ 8 * n =
    groups_long n (i + 1) (next_seed (next_seed seed)) (names_after names (drawn_maker seed)) in
    omega (arith, f)

lines_long : (n : ℕ) → length (lines_of n) ≡ 8192
unfolding lines_of
lines_long n = groups_long groups 0 n (replicate tasks 0)

lines_written : (n : ℕ) → AllByRecursion IsWritten (lines_of n)
unfolding lines_of
lines_written n = groups_written groups 0 n (replicate tasks 0) (omega arith) few_at_start

-- the two halves of a list of pairs
first_half : (lines : List Line) → AllByRecursion IsWritten lines → AllByRecursion (λ l. IsIn 1 tasks l) lines
first_half [] f = tt
first_half (x ∷ lines) f = (f.0.0, first_half lines f.1)

second_half : (lines : List Line) → AllByRecursion IsWritten lines → AllByRecursion (λ (l : Line). HasBytes l.call) lines
second_half [] f = tt
second_half (x ∷ lines) f = (f.0.1, second_half lines f.1)

usual : IsQueueOf 1 USUAL_QUEUE
usual = (omega arith, omega arith, inr refl)

generated_limited : (n : ℕ) → IsLimited (generated n)
generated_limited n = record {
  version = inl refl;
  some_task = omega arith;
  tasks = omega arith;
  queues = refl;
  limits = (usual, (usual, (usual, (usual, (usual, (usual, (usual, (usual, tt))))))));
  some_phase = omega arith;
  phases = omega arith;
  calls = let e = lines_long n in omega (arith, e);
  lines = (first_half (lines_of n) (lines_written n), tt);
}

pub generated_written : (n : ℕ) → IsWritable (generated n)
generated_written n = record { limited = generated_limited n; bytes = (second_half (lines_of n) (lines_written n), tt) }
