-- Calls of a phase, and different vouchers, from what the books have.
use Rattle.std.proofs.Common.{◌≡◌, ℕ, zero, suc, ◌+◌, ◌-◌, ◌<◌, ◌≤◌, Bool, List, [], ◌∷◌, ◌++◌, refl, true, arith, ap, sym, ◌∙◌, subst, length, map, get_or, Some, None, Option, IsTrue, ◌↔◌}
use Rattle.std.specs.Prelude.{MatchOption, if◌then◌else◌, ◌⊎◌, nat_lt, ◌&&◌, ◌||◌}
use Rattle.std.proofs.Common.{inl, inr}
use Rattle.std.proofs.lemmas.Grind.{common_steps}
use Rattle.std.specs.List.{AllByRecursion, list_any, flat_map}
use Rattle.std.proofs.lemmas.List.{map-append, length-map}
use Rattle.vch_base.specs.Tasks.{at_task}
use Rattle.vch_model.specs.declared.entry.Entry.{Entry}
use Rattle.vch_model.specs.Legal.{EachTask}
use Rattle.vch_model.specs.Lines.{lines_of, lines_until, calls_in, phases_in}
use Rattle.vch_model.specs.Replies.{all_vouchers, vouchers_of, different}
use Rattle.vch_model.specs.Store as store
use Rattle.vch_model.specs.Store.{Store, Alive}
use Rattle.vch_model.specs.Voucher.{equal_vouchers}
use Rattle.vch_script.specs.Places.{spots_of, line_at_spot}
use Rattle.vch_books.specs.declared.numbers.Numbers.{Numbers}
use Rattle.vch_books.specs.declared.turns.Uncalled.{Uncalled}
use Rattle.vch_books.specs.declared.rows.Named.{Named}
use Rattle.vch_books.specs.declared.rows.Message.{Message}
use Rattle.vch_books.specs.Desks.{Desk, empty_desk, same_numbers}
use Rattle.vch_books.specs.Holding.{numbers_of, desk_numbers, all_numbers, different_numbers}
use Rattle.vch_books.specs.Numbered.{Stands, OptionStands, numbered_voucher, option_voucher, names_of, queue_of, member_of, live_of}
use Rattle.vch_books.specs.Audits.{Audit, past_at, store_at, IsUncalled}
use Rattle.vch_books.specs.Turns.{IsShort}
use Rattle.vch_books.specs.Kept.{Lists, Keeps, DeskStands, IsMade, AreApart}
use Rattle.vch_books.proofs.CallTurns.{calls_at_most, calls_of_lines}
use Rattle.vch_books.proofs.Keeping.{few_kept}
use Rattle.vch_books.proofs.Alike.{voucher_alike}

pub each_at : (P : ℕ → Type 0) (n t : ℕ) → EachTask n P → 1 ≤ t → t ≤ n → P t
each_at P zero t e p q = absurd (none t p q)
  where
    none : (t : ℕ) → 1 ≤ t → t ≤ 0 → ⊥
    none t p q = omega (arith, p, q)
each_at P (suc n) t e p q = by (split t n) (λ x. each_at P n t e.0 p x)
  where
    split : (a b : ℕ) → (a ≤ b) ⊎ (b < a)
    split a b = grind arith

    last : (a b : ℕ) → a ≤ suc b → b < a → suc b ≡ a
    last a b x y = omega (arith, x, y)

    by : (t ≤ n) ⊎ (n < t) → (t ≤ n → P t) → P t
    by (inl x) f = f x
    by (inr x) f = subst P (last t n q x) e.1

pub each_change : (P Q : ℕ → Type 0) (n : ℕ) → ((t : ℕ) → 1 ≤ t → t ≤ n → P t → Q t) → EachTask n P → EachTask n Q
each_change P Q zero f e = tt
each_change P Q (suc n) f e = (each_change P Q n (λ t x y p. f t x (up t n y) p) e.0, f (suc n) (some n) (own n) e.1)
  where
    up : (t n : ℕ) → t ≤ n → t ≤ suc n
    up t n x = omega (arith, x)

    some : (n : ℕ) → 1 ≤ suc n
    some n = omega arith

    own : (n : ℕ) → suc n ≤ suc n
    own n = omega arith

-- The calls of the phase.

abbrev Begun : Audit → Lists → ℕ → Type 0
Begun a l t = lines_until a.scenario (l.phases + 1) t ≤ (at_task l.tasks t empty_desk).begun

abbrev Done : Audit → ℕ → Type 0
Done a t = calls_in (past_at a) t ≡ lines_until a.scenario (phases_in (past_at a) + 1) t

pub done_kept : (a : Audit) (l : Lists) (b : Bool) → Keeps a l → IsTrue b ↔ EachTask (length l.tasks) (λ t. lines_until a.scenario (l.phases + 1) t ≤ (at_task l.tasks t empty_desk).begun)
    → IsTrue b ↔ EachTask (length a.scenario.flags) (λ t. calls_in (past_at a) t ≡ lines_until a.scenario (phases_in (past_at a) + 1) t)
done_kept a l b k e = (
  λ x. subst (λ n. EachTask n (Done a)) k.long (each_change (Begun a l) (Done a) (length l.tasks) (λ t p q h. to t h) (e.0 x)),
  λ x. e.1 (each_change (Done a) (Begun a l) (length l.tasks) (λ t p q h. from t h) (subst (λ n. EachTask n (Done a)) (sym k.long) x)),
)
  where
    both : {x y : ℕ} → x ≤ y → y ≤ x → x ≡ y
    both p q = omega (arith, p, q)

    least : {x y : ℕ} → x ≡ y → y ≤ x
    least p = omega (arith, p)

    to : (t : ℕ) → Begun a l t → Done a t
    to t h =
        let h2 : lines_until a.scenario (phases_in (past_at a) + 1) t ≤ (at_task l.tasks t empty_desk).begun = subst (λ n. lines_until a.scenario (n + 1) t ≤ (at_task l.tasks t empty_desk).begun) k.ended h in
        both (calls_at_most a.scenario (past_at a) k.limited k.legal t) (subst (λ n. lines_until a.scenario (phases_in (past_at a) + 1) t ≤ n) (k.begun t) h2)

    from : (t : ℕ) → Done a t → Begun a l t
    from t h =
        subst (λ n. lines_until a.scenario (n + 1) t ≤ (at_task l.tasks t empty_desk).begun) (sym k.ended)
        (subst (λ n. lines_until a.scenario (phases_in (past_at a) + 1) t ≤ n) (sym (k.begun t)) (least h))

-- Lines without calls.

spots_long : (a : Audit) (l : Lists) → Keeps a l → (t : ℕ) → length (spots_of l.places t) ≡ length (lines_of a.scenario t)
spots_long a l k t = sym (length-map (spots_of l.places t) (line_at_spot a.scenario.phases)) ∙ (ap length (k.placed.each t) ∙ length-map (lines_of a.scenario t) (λ x. Some x))

all_of : (P : Desk → Type 0) (xs : List Desk) → ((i : ℕ) → i < length xs → P (get_or xs i empty_desk)) → AllByRecursion P xs
all_of P [] f = tt
all_of P (x ∷ xs) f = (f 0 (some (length xs)), all_of P xs (λ i p. f (suc i) (up i (length xs) p)))
  where
    some : (n : ℕ) → 0 < suc n
    some n = omega arith

    up : (i n : ℕ) → i < n → suc i < suc n
    up i n p = omega (arith, p)

pub all_few : (a : Audit) (l : Lists) → Keeps a l → AllByRecursion (λ (d : Desk). d.begun ≤ 16384) l.tasks
all_few a l k = all_of (λ (d : Desk). d.begun ≤ 16384) l.tasks (λ i p. few_kept a l k (suc i))

pub tasks_few : (a : Audit) (l : Lists) → Keeps a l → length l.tasks ≤ 64
tasks_few a l k = subst (λ n. n ≤ 64) (sym k.long) k.limited.tasks

abbrev Called : Audit → ℕ → Type 0
Called a t = calls_in (past_at a) t ≡ length (lines_of a.scenario t)

abbrev Short : Lists → ℕ → Type 0
Short l t = length (spots_of l.places t) ≤ (at_task l.tasks t empty_desk).begun

called : (a : Audit) (l : Lists) → Keeps a l → (t : ℕ) → Short l t → Called a t
called a l k t h =
    let x : calls_in (past_at a) t ≤ length (lines_of a.scenario t) = calls_of_lines a.scenario (past_at a) k.limited k.legal t in
    let y : length (spots_of l.places t) ≡ length (lines_of a.scenario t) = spots_long a l k t in
    let z : (at_task l.tasks t empty_desk).begun ≡ calls_in (past_at a) t = k.begun t in
    omega (arith, x, y, z, h)

pub each_called : (a : Audit) (l : Lists) → Keeps a l → EachTask (length l.tasks) (λ t. length (spots_of l.places t) ≤ (at_task l.tasks t empty_desk).begun)
    → EachTask (length a.scenario.flags) (λ t. calls_in (past_at a) t ≡ length (lines_of a.scenario t))
each_called a l k e = subst (λ n. EachTask n (Called a)) k.long (each_change (Short l) (Called a) (length l.tasks) (λ t p q h. called a l k t h) e)

pub uncalled : (a : Audit) (l : Lists) (task number : ℕ) → Keeps a l → IsShort l.places l.tasks task number → IsUncalled a task number
uncalled a l task number k s =
    let y : length (spots_of l.places task) ≡ length (lines_of a.scenario task) = spots_long a l k task in
    let z : (at_task l.tasks task empty_desk).begun ≡ calls_in (past_at a) task = k.begun task in
    let f : (at_task l.tasks task empty_desk).begun < length (spots_of l.places task) = s.fewer in
    record {
      there = task_in task (length a.scenario.flags) s.some (subst (λ n. task ≤ n) k.long s.inside);
      fewer = omega (arith, y, z, f);
      first = s.first ∙ ap (λ n. n + 1) z;
      lower = λ t i m. called a l k t (each_at (Short l) (task - 1) t s.lower (low t (length a.scenario.flags) i) (under t task m));
    }
  where
    task_in : (t n : ℕ) → 1 ≤ t → t ≤ n → (nat_lt 0 t && nat_lt t (n + 1)) ≡ true
    task_in t n a b = grind (arith, common_steps)

    low : (t n : ℕ) → (nat_lt 0 t && nat_lt t (n + 1)) ≡ true → 1 ≤ t
    low t n e = grind (arith, common_steps)

    under : (t n : ℕ) → t < n → t ≤ n - 1
    under t n h = omega (arith, h)

-- Different vouchers.

names_are : (h : List Entry) (names : List Named) → flat_map (λ (n : store.Named). n.voucher ∷ []) (names_of h names) ≡ map (numbered_voucher h) (flat_map (λ (n : Named). n.voucher ∷ []) names)
names_are h [] = refl
names_are h (n ∷ names) = ap (λ vs. numbered_voucher h n.voucher ∷ vs) (names_are h names)

queue_is : (h : List Entry) (queue : List Message) → flat_map vouchers_of (queue_of h queue) ≡ map (numbered_voucher h) (flat_map numbers_of queue)
queue_is h [] = refl
queue_is h (q ∷ queue) = by q.voucher (queue_is h queue)
  where
    by : (o : Option Numbers) → flat_map vouchers_of (queue_of h queue) ≡ map (numbered_voucher h) (flat_map numbers_of queue)
        → vouchers_of (record { sender = q.sender; id = q.id; voucher = option_voucher h o }) ++ flat_map vouchers_of (queue_of h queue)
        ≡ map (numbered_voucher h) (numbers_of (record { sender = q.sender; id = q.id; voucher = o }) ++ flat_map numbers_of queue)
    by None e = e
    by (Some v) e = ap (λ vs. numbered_voucher h v ∷ vs) e

all_are : (h : List Entry) (tasks : List Desk) → all_vouchers (map (member_of h) tasks) ≡ map (numbered_voucher h) (all_numbers tasks)
all_are h [] = refl
all_are h (d ∷ tasks) =
    let xs = flat_map (λ (n : Named). n.voucher ∷ []) d.names in
    let ys = flat_map numbers_of d.queue in
    ap (λ vs. (vs ++ flat_map vouchers_of (queue_of h d.queue)) ++ all_vouchers (map (member_of h) tasks)) (names_are h d.names)
    ∙ (ap (λ vs. (map (numbered_voucher h) xs ++ vs) ++ all_vouchers (map (member_of h) tasks)) (queue_is h d.queue)
    ∙ (ap (λ vs. (map (numbered_voucher h) xs ++ map (numbered_voucher h) ys) ++ vs) (all_are h tasks)
    ∙ (ap (λ vs. vs ++ map (numbered_voucher h) (all_numbers tasks)) (sym (map-append (numbered_voucher h) xs ys))
    ∙ sym (map-append (numbered_voucher h) (xs ++ ys) (all_numbers tasks)))))

pub joined : {A : Type 0} (P : A → Type 0) (xs ys : List A) → AllByRecursion P xs → AllByRecursion P ys → AllByRecursion P (xs ++ ys)
joined P [] ys p q = q
joined P (x ∷ xs) ys p q = (p.0, joined P xs ys p.1 q)

desk_all : (h : List Entry) (live : List Alive) (d : Desk) → DeskStands h live d → AllByRecursion (Stands h live) (desk_numbers d)
desk_all h live d s = joined (Stands h live) (flat_map (λ (n : Named). n.voucher ∷ []) d.names) (flat_map numbers_of d.queue) (names d.names s.0) (queue d.queue s.1)
  where
    names : (ns : List Named) → AllByRecursion (λ (n : Named). Stands h live n.voucher) ns → AllByRecursion (Stands h live) (flat_map (λ (n : Named). n.voucher ∷ []) ns)
    names [] p = tt
    names (n ∷ ns) p = (p.0, names ns p.1)

    queue : (qs : List Message) → AllByRecursion (λ (q : Message). OptionStands h live q.voucher) qs → AllByRecursion (Stands h live) (flat_map numbers_of qs)
    queue [] p = tt
    queue (q ∷ qs) p = by q.voucher p.0 (queue qs p.1)
      where
        by : (o : Option Numbers) → OptionStands h live o → AllByRecursion (Stands h live) (flat_map numbers_of qs)
            → AllByRecursion (Stands h live) (numbers_of (record { sender = q.sender; id = q.id; voucher = o }) ++ flat_map numbers_of qs)
        by None s r = r
        by (Some v) s r = (s, r)

pub all_stand : (h : List Entry) (live : List Alive) (tasks : List Desk) → AllByRecursion (DeskStands h live) tasks → AllByRecursion (Stands h live) (all_numbers tasks)
all_stand h live [] s = tt
all_stand h live (d ∷ tasks) s = joined (Stands h live) (desk_numbers d) (all_numbers tasks) (desk_all h live d s.0) (all_stand h live tasks s.1)

any_same : (h : List Entry) (n : ℕ) (live : List ℕ) → AreApart h live → AllByRecursion (IsMade h n) live → (v : Numbers) (vs : List Numbers) → Stands h (live_of h live) v → AllByRecursion (Stands h (live_of h live)) vs
    → list_any (equal_vouchers (numbered_voucher h v)) (map (numbered_voucher h) vs) ≡ list_any (same_numbers v) vs
any_same h n live apart made v [] s p = refl
any_same h n live apart made v (w ∷ vs) s p =
    let here : equal_vouchers (numbered_voucher h v) (numbered_voucher h w) ≡ same_numbers v w = voucher_alike h n live apart made v w s p.0 in
    ap (λ b. b || list_any (equal_vouchers (numbered_voucher h v)) (map (numbered_voucher h) vs)) here
    ∙ ap (λ b. same_numbers v w || b) (any_same h n live apart made v vs s p.1)

different_are : (h : List Entry) (n : ℕ) (live : List ℕ) → AreApart h live → AllByRecursion (IsMade h n) live → (vs : List Numbers) → AllByRecursion (Stands h (live_of h live)) vs
    → different (map (numbered_voucher h) vs) ≡ different_numbers vs
different_are h n live apart made [] p = refl
different_are h n live apart made (v ∷ vs) p =
    ap (λ b. (if b then 0 else 1) + different (map (numbered_voucher h) vs)) (any_same h n live apart made v vs p.0 p.1)
    ∙ ap (λ m. (if list_any (same_numbers v) vs then 0 else 1) + m) (different_are h n live apart made vs p.1)

pub different_kept : (a : Audit) (l : Lists) → Keeps a l → different_numbers (all_numbers l.tasks) ≡ different (all_vouchers (store_at a).tasks)
different_kept a l k =
    sym (ap (λ (s : Store). different (all_vouchers s.tasks)) k.store
    ∙ (ap different (all_are a.history l.tasks) ∙ different_are a.history a.taken l.live k.apart k.made (all_numbers l.tasks) (all_stand a.history (live_of a.history l.live) l.tasks k.stands)))

pub match_uncalled : (a : Audit) (l : Lists) (o : Option Uncalled) → Keeps a l
    → MatchOption o (EachTask (length l.tasks) (λ t. length (spots_of l.places t) ≤ (at_task l.tasks t empty_desk).begun)) (λ (u : Uncalled). IsShort l.places l.tasks u.task u.number)
    → MatchOption o (EachTask (length a.scenario.flags) (λ t. calls_in (past_at a) t ≡ length (lines_of a.scenario t))) (λ (u : Uncalled). IsUncalled a u.task u.number)
match_uncalled a l None k e = each_called a l k e
match_uncalled a l (Some u) k e = uncalled a l u.task u.number k e
