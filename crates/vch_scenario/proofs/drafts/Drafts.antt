-- What a draft keeps of the items that were read, and one item more.
use Rattle.std.proofs.Common.{◌≡◌, ◌≢◌, ℕ, suc, ◌+◌, ◌<◌, ◌≤◌, Bool, true, false, cond, eqb, List, [], ◌∷◌, ◌++◌, length, Option, Some, None, refl, sym, ap, subst, ◌∙◌, arith, append_assoc, append-nil, length-append, ◌⊎◌, inl, inr}
use Rattle.std.proofs.lemmas.Grind.{common_steps}
use Rattle.std.specs.List.{AllByRecursion}
use Rattle.vch_model.specs.declared.call.Line.{Line}
use Rattle.vch_base.specs.declared.flags.Flags.{Flags}
use Rattle.vch_model.specs.Rows.{with_line}
use Rattle.vch_scenario.specs.declared.draft.Draft.{Draft}
use Rattle.vch_scenario.specs.declared.draft.Place.{Place}
use Rattle.vch_scenario.specs.declared.draft.Place.TheVariants as places
use Rattle.vch_model.specs.Grammar.{Item, Title, Tasks, Task, Phase, Calls, End}
use Rattle.vch_scenario.specs.Faults.{MayStand, IsRanged, IsQueueRanged, IsWithin, limit_by, with_item}
use Rattle.vch_base.specs.declared.limits.TheConstants.{MOST_TASKS, MOST_PHASES, MOST_CALLS}
use Rattle.vch_model.specs.Scenarios.{MayWrite, MayWriteAll, task_items, line_items, phase_items, line_count, IsQueueOf, IsIn}
use Rattle.vch_text.proofs.CallerLemmas.{ends}
use Rattle.vch_scenario.proofs.drafts.ItemRuns.{last_line}

-- the calls of the phases
abbrev pub AllIn : ℕ → ℕ → List (List Line) → Type 0
AllIn version tasks ps = AllByRecursion (λ p. AllByRecursion (λ l. IsIn version tasks l) p) ps

-- a limit for each task
pub record Limits (d : Draft) : Type 0 where
  pub version : (d.version ≡ 1) ⊎ (d.version ≡ 2)
  pub count : length d.queues ≡ length d.flags
  pub each : AllByRecursion (IsQueueOf d.version) d.queues

pub record Listed (d : Draft) : Type 0 where
  pub limits : Limits d
  pub count : length d.flags ≡ d.tasks
  pub some : 1 ≤ d.tasks
  pub few : d.tasks ≤ MOST_TASKS

pub record Called (d : Draft) : Type 0 where
  pub listed : Listed d
  pub some : 1 ≤ length d.phases
  pub few : length d.phases ≤ MOST_PHASES
  pub calls : d.calls ≡ line_count d.phases
  pub limit : d.calls ≤ MOST_CALLS
  pub each : AllIn d.version d.tasks d.phases

pub record Empty (d : Draft) : Type 0 where
  pub phases : d.phases ≡ []
  pub calls : d.calls ≡ 0

pub record Bare (d : Draft) : Type 0 where
  pub flags : d.flags ≡ []
  pub queues : d.queues ≡ []
  pub empty : Empty d

pub record Filled (d : Draft) : Type 0 where
  pub limits : Limits d
  pub less : length d.flags < d.tasks
  pub few : d.tasks ≤ MOST_TASKS
  pub empty : Empty d

abbrev pub Kept : Place → Draft → Type 0
Kept places.Title d = Bare d
Kept places.Tasks d = ((d.version ≡ 1) ⊎ (d.version ≡ 2)) × Bare d
Kept places.Task d = Filled d
Kept places.Phase d = Listed d × Empty d
Kept places.Call d = Called d
Kept places.End d = Called d

-- the items of a draft, with what its task lines write of the queues
abbrev pub head_items : List (Option ℕ) → Draft → List Item
head_items queues d = Title d.version ∷ Tasks d.tasks ∷ task_items 1 d.flags queues

abbrev pub items_to : Place → List (Option ℕ) → Draft → List Item
items_to places.Title queues d = []
items_to places.Tasks queues d = Title d.version ∷ []
items_to places.Task queues d = head_items queues d
items_to places.Phase queues d = head_items queues d
items_to places.Call queues d = head_items queues d ++ phase_items d.phases
items_to places.End queues d = (head_items queues d ++ phase_items d.phases) ++ End ∷ []

abbrev pub Written : List (Option ℕ) → Draft → Type 0
Written queues d = MayWriteAll d.version queues d.queues

-- what is written of the queues, with an item more
abbrev pub queues_with : List (Option ℕ) → Item → List (Option ℕ)
queues_with queues (Task t f queue) = queues ++ queue ∷ []
queues_with queues i = queues

written_none : (v w : ℕ) (queues : List (Option ℕ)) (limits : List ℕ) → limits ≡ [] → MayWriteAll v queues limits → MayWriteAll w queues limits
written_none v w [] [] e h = tt
written_none v w [] (l ∷ ls) e h = absurd h
written_none v w (q ∷ qs) [] e h = absurd h
written_none v w (q ∷ qs) (l ∷ ls) e h = absurd cc

written_length : (v : ℕ) (queues : List (Option ℕ)) (limits : List ℕ) → MayWriteAll v queues limits → length queues ≡ length limits
written_length v [] [] h = refl
written_length v [] (l ∷ ls) h = absurd h
written_length v (q ∷ qs) [] h = absurd h
written_length v (q ∷ qs) (l ∷ ls) h = ap (λ (n : ℕ). suc n) (written_length v qs ls h.1)

written_push : (v : ℕ) (queues : List (Option ℕ)) (limits : List ℕ) (queue : Option ℕ) (limit : ℕ) → MayWriteAll v queues limits → MayWrite v queue limit → MayWriteAll v (queues ++ queue ∷ []) (limits ++ limit ∷ [])
written_push v [] [] queue limit h w = (w, tt)
written_push v [] (l ∷ ls) queue limit h w = absurd h
written_push v (q ∷ qs) [] queue limit h w = absurd h
written_push v (q ∷ qs) (l ∷ ls) queue limit h w = (h.0, written_push v qs ls queue limit h.1 w)

written_by : (v t : ℕ) (f : Flags) (queue : Option ℕ) → MayStand v places.Task (Task t f queue) → MayWrite v queue (limit_by queue)
written_by v t f None m = refl
written_by v t f (Some q) m = (m, refl)

limit_fits : (v t : ℕ) (f : Flags) (queue : Option ℕ) → MayStand v places.Task (Task t f queue) → IsQueueRanged queue → IsQueueOf v (limit_by queue)
limit_fits v t f None m r = (omega arith, omega arith, inr refl)
limit_fits v t f (Some q) m r = (r.0, r.1, inl m)

tasks_push : (t : ℕ) (fs : List Flags) (queues : List (Option ℕ)) (f : Flags) (queue : Option ℕ) → length queues ≡ length fs → task_items t (fs ++ f ∷ []) (queues ++ queue ∷ []) ≡ task_items t fs queues ++ Task (t + length fs) f queue ∷ []
tasks_push t [] [] f queue e = let n : t ≡ t + 0 = omega arith in ap (λ n. Task n f queue ∷ []) n
tasks_push t [] (q ∷ qs) f queue e = absurd (omega arith)
tasks_push t (g ∷ fs) [] f queue e = absurd (omega arith)
tasks_push t (g ∷ fs) (q ∷ qs) f queue e =
    let n : t + 1 + length fs ≡ t + suc (length fs) = omega arith in
    ap (λ x. Task t g q ∷ x) (tasks_push (t + 1) fs qs f queue (omega arith) ∙ ap (λ n. task_items (t + 1) fs qs ++ Task n f queue ∷ []) n)

lines_push : (ls : List Line) (l : Line) → line_items (ls ++ l ∷ []) ≡ line_items ls ++ Calls l ∷ []
lines_push [] l = refl
lines_push (m ∷ ls) l = ap (λ x. Calls m ∷ x) (lines_push ls l)

phases_push : (ps : List (List Line)) → phase_items (ps ++ [] ∷ []) ≡ phase_items ps ++ Phase ∷ []
phases_push [] = refl
phases_push (p ∷ ps) = ap (λ x. Phase ∷ (line_items p ++ x)) (phases_push ps) ∙ ap (λ x. Phase ∷ x) (sym (append_assoc (line_items p) (phase_items ps) (Phase ∷ [])))

phases_line : (ps : List (List Line)) (p : List Line) (l : Line) → phase_items (ps ++ (p ++ l ∷ []) ∷ []) ≡ phase_items (ps ++ p ∷ []) ++ Calls l ∷ []
phases_line [] p l = ap (λ x. Phase ∷ x) (append-nil (line_items (p ++ l ∷ [])) ∙ lines_push p l ∙ ap (λ x. x ++ Calls l ∷ []) (sym (append-nil (line_items p))))
phases_line (q ∷ ps) p l = ap (λ x. Phase ∷ (line_items q ++ x)) (phases_line ps p l) ∙ ap (λ x. Phase ∷ x) (sym (append_assoc (line_items q) (phase_items (ps ++ p ∷ [])) (Calls l ∷ [])))

calls_push : (ps : List (List Line)) → line_count (ps ++ [] ∷ []) ≡ line_count ps
calls_push [] = refl
calls_push (p ∷ ps) = ap (λ n. length p + n) (calls_push ps)

calls_line : (ps : List (List Line)) (p : List Line) (l : Line) → line_count (ps ++ (p ++ l ∷ []) ∷ []) ≡ line_count (ps ++ p ∷ []) + 1
calls_line [] p l = omega (arith, length-append p (l ∷ []))
calls_line (q ∷ ps) p l = omega (arith, calls_line ps p l)

all_push : {X : Type 0} (P : X → Type 0) (xs : List X) (x : X) → AllByRecursion P xs → P x → AllByRecursion P (xs ++ x ∷ [])
all_push P [] x h p = (p, tt)
all_push P (y ∷ xs) x h p = (h.0, all_push P xs x h.1 p)

all_line : (v t : ℕ) (ps : List (List Line)) (p : List Line) (l : Line) → AllIn v t (ps ++ p ∷ []) → IsIn v t l → AllIn v t (ps ++ (p ++ l ∷ []) ∷ [])
all_line v t [] p l h i = (all_push (λ l. IsIn v t l) p l h.0 i, tt)
all_line v t (q ∷ ps) p l h i = (h.0, all_line v t ps p l h.1 i)

-- a draft with an item more
pub record More (p : Place) (queues : List (Option ℕ)) (d : Draft) (i : Item) : Type 0 where
  pub kept : Kept (with_item d i).place (with_item d i)
  pub written : Written (queues_with queues i) (with_item d i)
  pub items : items_to (with_item d i).place (queues_with queues i) (with_item d i) ≡ items_to p queues d ++ i ∷ []

task_limits : (d : Draft) (t : ℕ) (f : Flags) (queue : Option ℕ) (p : Place) → Limits d → MayStand d.version places.Task (Task t f queue) → IsQueueRanged queue
    → Limits (record d { place = p; flags = d.flags ++ f ∷ []; queues = d.queues ++ limit_by queue ∷ [] })
task_limits d t f queue p l m r =
    record {
      version = l.version;
      count = omega (arith, l.count, length-append d.flags (f ∷ []), length-append d.queues (limit_by queue ∷ []));
      each = all_push (IsQueueOf d.version) d.queues (limit_by queue) l.each (limit_fits d.version t f queue m r);
    }

task_kept : (b : Bool) (d : Draft) (t : ℕ) (f : Flags) (queue : Option ℕ) → Filled d → MayStand d.version places.Task (Task t f queue) → IsQueueRanged queue → t ≡ length d.flags + 1 → eqb t d.tasks ≡ b
    → Kept (cond b places.Phase places.Task) (record d { place = cond b places.Phase places.Task; flags = d.flags ++ f ∷ []; queues = d.queues ++ limit_by queue ∷ [] })
task_kept true d t f queue k m r s q =
    let same : t ≡ d.tasks = grind (arith, common_steps) in
    (record { limits = task_limits d t f queue places.Phase k.limits m r; count = omega (arith, length-append d.flags (f ∷ [])); some = omega arith; few = k.few }, record { phases = k.empty.phases; calls = k.empty.calls })
task_kept false d t f queue k m r s q =
    let other : t ≢ d.tasks = λ same. let yes : eqb t d.tasks ≡ true = grind (arith, common_steps) in cc in
    record { limits = task_limits d t f queue places.Task k.limits m r; less = omega (arith, length-append d.flags (f ∷ []), k.less); few = k.few; empty = record { phases = k.empty.phases; calls = k.empty.calls } }

one_plus : (n t : ℕ) → t ≡ n + 1 → 1 + n ≡ t
one_plus n t e = omega arith

task_items_to : (b : Bool) (queues : List (Option ℕ)) (d : Draft) (t : ℕ) (f : Flags) (queue : Option ℕ) → length queues ≡ length d.flags → t ≡ length d.flags + 1
    → items_to (cond b places.Phase places.Task) (queues ++ queue ∷ []) (record d { place = cond b places.Phase places.Task; flags = d.flags ++ f ∷ []; queues = d.queues ++ limit_by queue ∷ [] }) ≡ head_items queues d ++ Task t f queue ∷ []
task_items_to true queues d t f queue e s =
    ap (λ x. Title d.version ∷ Tasks d.tasks ∷ x) (tasks_push 1 d.flags queues f queue e ∙ ap (λ n. task_items 1 d.flags queues ++ Task n f queue ∷ []) (one_plus (length d.flags) t s))
task_items_to false queues d t f queue e s =
    ap (λ x. Title d.version ∷ Tasks d.tasks ∷ x) (tasks_push 1 d.flags queues f queue e ∙ ap (λ n. task_items 1 d.flags queues ++ Task n f queue ∷ []) (one_plus (length d.flags) t s))

same_listed : (d e : Draft) → e.version ≡ d.version → e.flags ≡ d.flags → e.queues ≡ d.queues → e.tasks ≡ d.tasks → Listed d → Listed e
same_listed d e v f q t l =
    record {
      limits = record { version = subst (λ (n : ℕ). (n ≡ 1) ⊎ (n ≡ 2)) (sym v) l.limits.version; count = ap length q ∙ l.limits.count ∙ ap length (sym f); each = rw (v, q) l.limits.each };
      count = ap length f ∙ l.count ∙ sym t;
      some = omega (arith, l.some);
      few = omega (arith, l.few);
    }

first_phase : (d : Draft) → Listed d → Empty d → Called (with_item d Phase)
first_phase d l e =
    let ph : d.phases ++ [] ∷ [] ≡ [] ∷ [] = ap (λ (x : List (List Line)). x ++ [] ∷ []) e.phases in
    let len : length (d.phases ++ [] ∷ []) ≡ 1 = ap length ph in
    record {
      listed = same_listed d (with_item d Phase) refl refl refl refl l;
      some = omega arith;
      few = omega arith;
      calls = e.calls ∙ sym (calls_push d.phases ∙ ap line_count e.phases);
      limit = omega (arith, e.calls);
      each = subst (λ (x : List (List Line)). AllIn d.version d.tasks x) (sym ph) (tt, tt);
    }

next_phase : (d : Draft) → Called d → length d.phases < MOST_PHASES → Called (with_item d Phase)
next_phase d c lt =
    record {
      listed = same_listed d (with_item d Phase) refl refl refl refl c.listed;
      some = omega (arith, length-append d.phases ([] ∷ []));
      few = omega (arith, length-append d.phases ([] ∷ []));
      calls = c.calls ∙ sym (calls_push d.phases);
      limit = c.limit;
      each = all_push (λ p. AllByRecursion (λ l. IsIn d.version d.tasks l) p) d.phases [] c.each tt;
    }

next_call : (d : Draft) (l : Line) → Called d → IsIn d.version d.tasks l → d.calls < MOST_CALLS → Called (with_item d (Calls l))
next_call d l c i lt =
    let e = ends d.phases c.some in
    let w : with_line d.phases l ≡ e.front ++ (e.last ++ l ∷ []) ∷ [] = ap (λ (x : List (List Line)). with_line x l) e.whole ∙ last_line e.front e.last l in
    let same : length (with_line d.phases l) ≡ length d.phases = ap length w ∙ length-append e.front ((e.last ++ l ∷ []) ∷ []) ∙ sym (ap length e.whole ∙ length-append e.front (e.last ∷ [])) in
    let more : line_count (with_line d.phases l) ≡ line_count d.phases + 1 = ap line_count w ∙ calls_line e.front e.last l ∙ ap (λ (x : List (List Line)). line_count x + 1) (sym e.whole) in
    record {
      listed = same_listed d (with_item d (Calls l)) refl refl refl refl c.listed;
      some = omega (arith, c.some);
      few = omega (arith, c.few);
      calls = ap (λ (n : ℕ). n + 1) c.calls ∙ sym more;
      limit = omega arith;
      each = subst (λ (x : List (List Line)). AllIn d.version d.tasks x) (sym w) (all_line d.version d.tasks e.front e.last l (subst (λ (x : List (List Line)). AllIn d.version d.tasks x) e.whole c.each) i);
    }

end_called : (d : Draft) → Called d → Called (with_item d End)
end_called d k =
    record { listed = same_listed d (with_item d End) refl refl refl refl k.listed; some = k.some; few = k.few; calls = k.calls; limit = k.limit; each = k.each }

call_items : (d : Draft) (l : Line) → 1 ≤ length d.phases → phase_items (with_line d.phases l) ≡ phase_items d.phases ++ Calls l ∷ []
call_items d l some =
    let e = ends d.phases some in
    ap (λ (x : List (List Line)). phase_items (with_line x l)) e.whole ∙ ap phase_items (last_line e.front e.last l) ∙ phases_line e.front e.last l ∙ ap (λ (x : List (List Line)). phase_items x ++ Calls l ∷ []) (sym e.whole)

task_more : (queues : List (Option ℕ)) (d : Draft) (t : ℕ) (f : Flags) (queue : Option ℕ) → Filled d → Written queues d → MayStand d.version places.Task (Task t f queue) → (t ≡ length d.flags + 1) × IsQueueRanged queue → More places.Task queues d (Task t f queue)
task_more queues d t f queue k w m r =
    record {
      kept = task_kept (eqb t d.tasks) d t f queue k m r.1 r.0 refl;
      written = written_push d.version queues d.queues queue (limit_by queue) w (written_by d.version t f queue m);
      items = task_items_to (eqb t d.tasks) queues d t f queue (written_length d.version queues d.queues w ∙ k.limits.count) r.0;
    }

call_more : (queues : List (Option ℕ)) (d : Draft) (l : Line) → d.place ≡ places.Call → Called d → Written queues d → IsIn d.version d.tasks l → d.calls < MOST_CALLS → More places.Call queues d (Calls l)
call_more queues d l at k w i lt =
    let kept : Kept places.Call (with_item d (Calls l)) = next_call d l k i lt in
    let items : items_to places.Call queues (with_item d (Calls l)) ≡ items_to places.Call queues d ++ Calls l ∷ [] = ap (λ x. head_items queues d ++ x) (call_items d l k.some) ∙ sym (append_assoc (head_items queues d) (phase_items d.phases) (Calls l ∷ [])) in
    record { kept = subst (λ (q : Place). Kept q (with_item d (Calls l))) (sym at) kept; written = w; items = subst (λ (q : Place). items_to q queues (with_item d (Calls l)) ≡ items_to places.Call queues d ++ Calls l ∷ []) (sym at) items }

pub item_more : (p : Place) (i : Item) (queues : List (Option ℕ)) (d : Draft) → d.place ≡ p → Kept p d → Written queues d → MayStand d.version p i → IsRanged d i → IsWithin d i → More p queues d i
item_more places.Title (Title v) queues d at k w m r u =
    record { kept = (m, record { flags = k.flags; queues = k.queues; empty = record { phases = k.empty.phases; calls = k.empty.calls } }); written = written_none d.version v queues d.queues k.queues w; items = refl }
item_more places.Tasks (Tasks n) queues d at k w m r u =
    let b = k.1 in
    record {
      kept = record {
        limits = record { version = k.0; count = ap length b.queues ∙ ap length (sym b.flags); each = rw b.queues tt };
        less = omega (arith, ap length b.flags);
        few = r.1;
        empty = record { phases = b.empty.phases; calls = b.empty.calls };
      };
      written = w;
      items = ap (λ (x : List Flags). Title d.version ∷ Tasks n ∷ task_items 1 x queues) b.flags;
    }
item_more places.Task (Task t f None) queues d at k w m r u = task_more queues d t f None k w tt r
item_more places.Task (Task t f (Some q)) queues d at k w m r u = task_more queues d t f (Some q) k w m r
item_more places.Phase Phase queues d at k w m r u =
    let ph : phase_items (d.phases ++ [] ∷ []) ≡ Phase ∷ [] = ap (λ (x : List (List Line)). phase_items (x ++ [] ∷ [])) k.1.phases in
    record { kept = first_phase d k.0 k.1; written = w; items = ap (λ x. head_items queues d ++ x) ph }
item_more places.Call Phase queues d at k w m r u =
    record { kept = next_phase d k u; written = w; items = ap (λ x. head_items queues d ++ x) (phases_push d.phases) ∙ sym (append_assoc (head_items queues d) (phase_items d.phases) (Phase ∷ [])) }
item_more places.Call (Calls l) queues d at k w m r u = call_more queues d l at k w (r.0, r.1, r.2, m) u
item_more places.Call End queues d at k w m r u = record { kept = end_called d k; written = w; items = refl }
item_more p i queues d at k w m r u = absurd m
