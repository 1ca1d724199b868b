-- Each event of an exit lowers what is left: a name or a message is given up, or the call is answered.
use Rattle.std.proofs.Common.{◌≡◌, ℕ, suc, ◌+◌, ◌*◌, ◌≤◌, List, [], ◌∷◌, ◌++◌, refl, true, false, arith, sym, ap, ◌∙◌, subst, length, length-append, Some, None, Option}
use Rattle.std.specs.Prelude.{◌==◌, min}
use Rattle.vch_base.specs.Keys.{every_key}
use Rattle.vch_base.proofs.CallerLemmas.{own_item, as_long}
use Rattle.vch_model.specs.declared.call.Call.TheVariants as calls
use Rattle.vch_model.specs.declared.lists.Scenario.{Scenario}
use Rattle.vch_model.specs.Store.{lower}
use Rattle.vch_machine.specs.State.{Place, Named, Message, Frame, Tasked, Machine, idle, tasked, with_tasked}
use Rattle.vch_machine.specs.Naming.{lowest, without_name, handles_of, orphaned}
use Rattle.vch_machine.specs.Working.{letting, do_lost, do_gone, exit_queue, exit_names, do_exit}
use Rattle.vch_legal.specs.Left.{event_left, owned_left, task_left}
use Rattle.vch_legal.proofs.facts.Choices.{cases_bool}
use Rattle.vch_legal.proofs.tasks.TaskLists.{IsAmong}
use Rattle.vch_legal.proofs.tasks.OwnTask.{orphaned_few}
use Rattle.vch_legal.proofs.bounds.LeftTasks.{Left, frame_set, task_set}
use Rattle.vch_legal.proofs.bounds.LeftFrames.{Lower, Calls, now_left, over_lower}

-- the lowest name is one of the names
lowest_goes : (names : List Named) (name : ℕ) → lowest names ≡ Some name
    → length (without_name names name) + 1 ≤ length names
lowest_goes [] name e = cc
lowest_goes (n ∷ names) name e =
    cases_bool (n.name == name) (length (without_name (n ∷ names) name) + 1 ≤ length (n ∷ names))
    (λ here. rw here (next (length names)))
    (λ other. rw other (more _ _ (behind (λ b h. lowest_goes names b h) (lowest names) refl (some_eq e) other)))
  where
    next : (a : ℕ) → a + 1 ≤ suc a
    next a = omega arith

    more : (a b : ℕ) → a + 1 ≤ b → suc a + 1 ≤ suc b
    more a b h = omega arith

    some_eq : {a b : ℕ} → Some a ≡ Some b → a ≡ b
    some_eq h = cc

    apart : (a b : ℕ) → (a == b) ≡ false → a ≡ b → ⊥
    apart a b h g = grind arith

    lower_one : (a b c : ℕ) → min a b ≡ c → (a == c) ≡ false → b ≡ c
    lower_one a b c h g = grind arith

    behind : ((b : ℕ) → lowest names ≡ Some b → length (without_name names b) + 1 ≤ length names) → (o : Option ℕ)
        → lowest names ≡ o → lower n.name o ≡ name → (n.name == name) ≡ false
        → length (without_name names name) + 1 ≤ length names
    behind rec None g h other = absurd (apart n.name name other h)
    behind rec (Some b) g h other = rec name (g ∙ ap Some (lower_one n.name b name h other))

-- a task is replaced by one that owns less
less_task : (sc : Scenario) (t n : ℕ) (m : Machine) (x : Tasked) → IsAmong t m.tasks → x.begun ≡ (tasked m t).begun
    → x.frame ≡ (tasked m t).frame → owned_left x + n ≤ owned_left (tasked m t)
    → Left sc (with_tasked m t x) + n ≤ Left sc m
less_task sc t n m x among b f o =
    less _ _ _ _ _ _ _ n (task_set sc t m x among)
    (ap (λ k. task_left sc t (record x { begun = k })) b ∙ ap
    (λ g. task_left sc t (record x { begun = (tasked m t).begun; frame = g })) f) o
  where
    less : (a c d l f o x n : ℕ) → a + (l + f + o) ≡ c + d → d ≡ l + f + x → x + n ≤ o → a + n ≤ c
    less a c d l f o x n p q r = omega arith

-- a state in which the task owns less, and its frame is the same
record Lighter (sc : Scenario) (t : ℕ) (m n : Machine) (f : Frame) : Type 0 where
  left : Left sc n + event_left ≤ Left sc m
  among : IsAmong t n.tasks
  frame : (tasked n t).frame ≡ Some f

lighter : (sc : Scenario) (t : ℕ) (m : Machine) (f : Frame) (x : Tasked) → IsAmong t m.tasks
    → (tasked m t).frame ≡ Some f
    → x.begun ≡ (tasked m t).begun → x.frame ≡ (tasked m t).frame → owned_left x + event_left ≤ owned_left (tasked m t)
    → Lighter sc t m (with_tasked m t x) f
lighter sc t m f x among e b g o = record {
  left = less_task sc t event_left m x among b g o;
  among = (among.0, subst (λ i. t ≤ i) (sym (as_long m.tasks t x)) among.1);
  frame = ap (λ (y : Tasked). y.frame) (own_item m.tasks t x idle among.0 among.1) ∙ (g ∙ e);
}

-- the handles of one voucher are to be let go
letting_lower : (sc : Scenario) (t : ℕ) (m mid : Machine) (f : Frame) (lets : List Place) → Lighter sc t m mid f
    → length lets ≤ length every_key → Lower sc m (letting mid t f lets)
letting_lower sc t m mid f lets l few =
    lower_by _ _ _ _ _ _ _ _ _ (length lets)
    (frame_set sc t mid (Some (record f { lets = f.lets ++ lets })) l.among)
    (ap (now_left sc t mid) l.frame) (length-append f.lets lets) few l.left
  where
    lower_by : (a b c d e g h i k n : ℕ) → a + b ≡ c + (d + e + 3 * g + h) → b ≡ d + e + 3 * i + h → g ≡ i + n
        → n ≤ length every_key → c + event_left ≤ k → a + 1 ≤ k
    lower_by a b c d e g h i k n p q r s t = omega arith

gone_lower : (sc : Scenario) (t : ℕ) (m : Machine) (f : Frame) (name : ℕ) → IsAmong t m.tasks
    → (tasked m t).frame ≡ Some f
    → lowest (tasked m t).names ≡ Some name → Lower sc m (do_gone m t f name)
gone_lower sc t m f name among e low =
    letting_lower sc t m (with_tasked m t x) f (orphaned (with_tasked m t x) (handles_of (tasked m t).names name))
    (lighter sc t m f x among e refl refl
    (owned _ _ (length (tasked m t).queue) (lowest_goes (tasked m t).names name low)))
    (orphaned_few (with_tasked m t x) (handles_of (tasked m t).names name))
  where
    x : Tasked
    x = record (tasked m t) { names = without_name (tasked m t).names name }

    owned : (a b q : ℕ) → a + 1 ≤ b → event_left * (a + q) + event_left ≤ event_left * (b + q)
    owned a b q h = omega arith

lost_lower : (sc : Scenario) (t : ℕ) (m : Machine) (f : Frame) (q : Message) (queue : List Message) → IsAmong t m.tasks
    → (tasked m t).frame ≡ Some f → (tasked m t).queue ≡ q ∷ queue → Lower sc m (do_lost m t f q queue)
lost_lower sc t m f q queue among e first =
    letting_lower sc t m (with_tasked m t x) f (orphaned (with_tasked m t x) q.voucher)
    (lighter sc t m f x among e refl refl (owned (length (tasked m t).names) _ _ (ap length first)))
    (orphaned_few (with_tasked m t x) q.voucher)
  where
    x : Tasked
    x = record (tasked m t) { queue = queue }

    owned : (n a b : ℕ) → b ≡ suc a → event_left * (n + a) + event_left ≤ event_left * (n + b)
    owned n a b h = omega arith

-- Work of an exit
pub exit_lower : (sc : Scenario) (t : ℕ) (m : Machine) (f : Frame) → Calls sc t m f calls.Exit
    → Lower sc m (do_exit m t f)
exit_lower sc t m f c = by_names (lowest (tasked m t).names) refl
  where
    none_more : (a : List Place) → a ≡ a ++ []
    none_more [] = refl
    none_more (p ∷ a) = ap (λ (xs : List Place). p ∷ xs) (none_more a)

    less : (a b : ℕ) → a + (event_left + 2) ≤ b → a + 1 ≤ b
    less a b h = omega arith

    by_queue : (queue : List Message) → (tasked m t).queue ≡ queue → Lower sc m (exit_queue m t f queue)
    by_queue [] e = less _ _ (over_lower sc t m f (record f { answered = true }) calls.Exit [] c refl refl refl
        (none_more f.lets) (omega arith))
    by_queue (q ∷ queue) e = lost_lower sc t m f q queue c.framed.among c.framed.frame e

    by_names : (o : Option ℕ) → lowest (tasked m t).names ≡ o → Lower sc m (exit_names m t f o)
    by_names None e = by_queue (tasked m t).queue refl
    by_names (Some name) e = gone_lower sc t m f name c.framed.among c.framed.frame e
