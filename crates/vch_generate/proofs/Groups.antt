-- One group more, and all of them.
use Rattle.std.proofs.Common.{◌≡◌, ◌≤◌, ◌<◌, ◌+◌, ◌-◌, ℕ, zero, suc, List, [], ◌∷◌, ◌++◌, replicate, refl, sym, ap, subst, ◌∙◌, arith}
use Rattle.std.proofs.lemmas.List.{append_assoc, append-nil}
use Rattle.vch_base.specs.Tasks.{at_task}
use Rattle.vch_machine.specs.Schedules.{next_seed}
use Rattle.vch_model.specs.declared.call.Line.{Line}
use Rattle.vch_generate.specs.Generated.{groups, groups_from, group, lines_of, drawn_maker, drawn_content, taker, tasks, names_after}
use Rattle.vch_generate.specs.declared.generator.Group.{Group}
use Rattle.vch_generate.specs.Generating.{AreFew, IsOnTheWay}
use Rattle.vch_generate.proofs.FewNames.{few_at_start}

-- the group that is drawn from a seed
abbrev pub group_drawn : ℕ → ℕ → List ℕ → List Line
group_drawn made seed names =
    group made (drawn_maker seed) (taker (drawn_maker seed)) (drawn_content seed)
    (at_task (names_after names (drawn_maker seed)) (drawn_maker seed) 0)
    (at_task (names_after names (drawn_maker seed)) (taker (drawn_maker seed)) 0)

one_left : (made : ℕ) → made < groups → groups - made ≡ suc (groups - (made + 1))
one_left made e = omega (arith, e)

pub group_more : (n made seed : ℕ) (names : List ℕ) (lines more : List Line) → made < groups → IsOnTheWay n made seed names lines
    → more ≡ lines ++ group_drawn made seed names → AreFew (made + 1) (names_after names (drawn_maker seed))
    → IsOnTheWay n (made + 1) (next_seed (next_seed seed)) (names_after names (drawn_maker seed)) more
group_more n made seed names lines more e way f few = record {
  rest = ap (λ l. l ++ rest) f ∙ (append_assoc lines (group_drawn made seed names) rest
      ∙ (ap (λ k. lines ++ groups_from k made seed names) (sym (one_left made e)) ∙ way.rest));
  few = few;
}
  where
    rest : List Line
    rest = groups_from (groups - (made + 1)) (made + 1) (next_seed (next_seed seed)) (names_after names (drawn_maker seed))

pub all_groups : (n made seed : ℕ) (names : List ℕ) (lines : List Line) → groups ≤ made → IsOnTheWay n made seed names lines → lines ≡ lines_of n
all_groups n made seed names lines e way =
    let none : groups - made ≡ 0 = omega (arith, e) in
    sym (append-nil lines) ∙ (ap (λ k. lines ++ groups_from k made seed names) (sym none) ∙ way.rest)

pub at_start : (n : ℕ) (lines : List Line) → lines ≡ [] → IsOnTheWay n 0 n (replicate tasks 0) lines
unfolding lines_of
at_start n lines e = record { rest = ap (λ l. l ++ groups_from groups 0 n (replicate tasks 0)) e; few = few_at_start }

-- what is drawn for a group and its names are those of the definition
pub record IsDrawn (made seed : ℕ) (names more : List ℕ) (d : Group) : Type 0 where
  pub number : d.number ≡ made
  pub maker : d.maker ≡ drawn_maker seed
  pub taker : d.taker ≡ taker d.maker
  pub content : d.content ≡ drawn_content seed
  pub made_name : d.made_name ≡ at_task more d.maker 0
  pub taken_name : d.taken_name ≡ at_task more d.taker 0
  pub names_are : more ≡ names_after names d.maker

abbrev pub group_of : Group → List Line
group_of d = group d.number d.maker d.taker d.content d.made_name d.taken_name

drawn_group : (made seed : ℕ) (names more : List ℕ) (d : Group) → IsDrawn made seed names more d → group_of d ≡ group_drawn made seed names
drawn_group made seed names more d is = rw (is.made_name, is.taken_name, is.names_are, is.taker, is.maker, is.content, is.number) refl

pub group_then : (n made seed after : ℕ) (names more : List ℕ) (lines longer : List Line) (d : Group) → made < groups
    → IsOnTheWay n made seed names lines → IsDrawn made seed names more d → AreFew (made + 1) more → after ≡ next_seed (next_seed seed)
    → longer ≡ lines ++ group_of d → IsOnTheWay n (made + 1) after more longer
group_then n made seed after names more lines longer d e way is few f g =
    let same : more ≡ names_after names (drawn_maker seed) = is.names_are ∙ ap (names_after names) is.maker in
    let step : IsOnTheWay n (made + 1) (next_seed (next_seed seed)) (names_after names (drawn_maker seed)) longer =
    group_more n made seed names lines longer e way (g ∙ ap (λ l. lines ++ l) (drawn_group made seed names more d is))
    (subst (AreFew (made + 1)) same few) in
    subst (λ s. IsOnTheWay n (made + 1) s more longer) (sym f)
    (subst (λ l. IsOnTheWay n (made + 1) (next_seed (next_seed seed)) l longer) (sym same) step)
