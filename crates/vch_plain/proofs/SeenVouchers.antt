-- The vouchers of the state and those of the store are counted alike.
use Rattle.std.proofs.Common.{◌≡◌, true, List, [], ◌∷◌, ◌++◌, map, refl, sym, ap, ◌∙◌, arith, Option, Some, None, is_some}
use Rattle.std.specs.List.{list_any, flat_map, AllByRecursion}
use Rattle.vch_model.specs.Voucher.{equal_vouchers}
use Rattle.vch_model.specs.Store as store
use Rattle.vch_model.specs.Replies.{different, all_vouchers, vouchers_of}
use Rattle.vch_model.specs.declared.lists.Scenario.{Scenario}
use Rattle.vch_machine.specs.Naming.{same_handles}
use Rattle.vch_machine.specs.State.{Handles, Living, Machine, Message, Named, Place, Tasked, frame_holds, has_place, option_has, living_at, member_of, message_of, named_of, seen, task_holds, valued}
use Rattle.vch_legal.specs.Facts.{Fits, Spot, spot, spot_fits, Different}
use Rattle.vch_legal.proofs.CallerLemmas.{LiveAll, same_vouchers, voucher_live, or_left, or_right}
use Rattle.vch_plain.specs.Counted.{listed, name_handles, queue_handles, task_handles, all_handles, different_handles}

names_valued : (live : List Living) (names : List Named)
    → flat_map (λ (n : store.Named). n.voucher ∷ []) (map (named_of live) names) ≡ map (valued live) (name_handles names)
names_valued live [] = refl
names_valued live (n ∷ names) = ap (λ vs. valued live n.voucher ∷ vs) (names_valued live names)

queue_valued : (live : List Living) (queue : List Message)
    → flat_map vouchers_of (map (message_of live) queue) ≡ map (valued live) (queue_handles queue)
queue_valued live [] = refl
queue_valued live (q ∷ queue) = of_voucher q.voucher (queue_valued live queue)
  where
    of_voucher : (o : Option Handles) → flat_map vouchers_of (map (message_of live) queue) ≡ map (valued live) (queue_handles queue)
        → vouchers_of (message_of live (record q { voucher = o })) ++ flat_map vouchers_of (map (message_of live) queue)
        ≡ map (valued live) (listed o ++ queue_handles queue)
    of_voucher None e = e
    of_voucher (Some v) e = ap (λ vs. valued live v ∷ vs) e

map_join : {X Y : Type 0} (f : X → Y) (xs ys : List X) → map f (xs ++ ys) ≡ map f xs ++ map f ys
map_join f [] ys = refl
map_join f (x ∷ xs) ys = ap (λ zs. f x ∷ zs) (map_join f xs ys)

joined : {X : Type 0} (a b c d e f : List X) → a ≡ d → b ≡ e → c ≡ f → a ++ b ++ c ≡ d ++ e ++ f
joined a b c d e f p q r = cc

pub all_valued : (live : List Living) (tasks : List Tasked) → all_vouchers (map (member_of live) tasks) ≡ map (valued live) (all_handles tasks)
all_valued live [] = refl
all_valued live (x ∷ tasks) =
    joined _ _ _ _ _ _ (names_valued live x.names) (queue_valued live x.queue) (all_valued live tasks)
    ∙ (ap (λ vs. vs ++ map (valued live) (all_handles tasks)) (sym (map_join (valued live) (name_handles x.names) (queue_handles x.queue)))
    ∙ sym (map_join (valued live) (task_handles x) (all_handles tasks)))

-- counted alike, where all are live

any_same : (live : List Living) (v : Handles) (vs : List Handles) → Different live → LiveAll live v → AllByRecursion (LiveAll live) vs
    → list_any (equal_vouchers (valued live v)) (map (valued live) vs) ≡ list_any (same_handles v) vs
any_same live v [] d l h = refl
any_same live v (w ∷ vs) d l h = rw (same_vouchers live v w d l h.0, any_same live v vs d l h.1) refl

pub counted_same : (live : List Living) (vs : List Handles) → Different live → AllByRecursion (LiveAll live) vs
    → different (map (valued live) vs) ≡ different_handles vs
counted_same live [] d h = refl
counted_same live (v ∷ vs) d h = rw (any_same live v vs d h.0 h.1, counted_same live vs d h.1) refl

-- what names and messages have is live

abbrev HeldAreLive : List Living → List Tasked → Type 0
HeldAreLive live tasks = (p : Place) → list_any (task_holds p) tasks ≡ true → is_some (living_at live p) ≡ true

holder_live : (s : Spot) → spot_fits s ≡ true → s.held ≡ true → s.live ≡ true
holder_live s h e = grind arith

all_joined : (P : Handles → Type 0) (xs ys : List Handles) → AllByRecursion P xs → AllByRecursion P ys → AllByRecursion P (xs ++ ys)
all_joined P [] ys h g = g
all_joined P (x ∷ xs) ys h g = (h.0, all_joined P xs ys h.1 g)

names_are_live : (live : List Living) (names : List Named)
    → ((p : Place) → list_any (λ (n : Named). has_place n.voucher p) names ≡ true → is_some (living_at live p) ≡ true)
    → AllByRecursion (LiveAll live) (name_handles names)
names_are_live live [] h = tt
names_are_live live (n ∷ names) h = (
  voucher_live live n.voucher (λ p e. h p (or_left (has_place n.voucher p) _ e)),
  names_are_live live names (λ p e. h p (or_right (has_place n.voucher p) _ e)),
)

queue_is_live : (live : List Living) (queue : List Message)
    → ((p : Place) → list_any (λ (q : Message). option_has q.voucher p) queue ≡ true → is_some (living_at live p) ≡ true)
    → AllByRecursion (LiveAll live) (queue_handles queue)
queue_is_live live [] h = tt
queue_is_live live (q ∷ queue) h =
    all_joined (LiveAll live) (listed q.voucher) (queue_handles queue)
    (of_voucher q.voucher (λ p e. h p (or_left (option_has q.voucher p) _ e)))
    (queue_is_live live queue (λ p e. h p (or_right (option_has q.voucher p) _ e)))
  where
    of_voucher : (o : Option Handles) → ((p : Place) → option_has o p ≡ true → is_some (living_at live p) ≡ true)
        → AllByRecursion (LiveAll live) (listed o)
    of_voucher None g = tt
    of_voucher (Some v) g = (voucher_live live v g, tt)

tasks_are_live : (live : List Living) (tasks : List Tasked) → HeldAreLive live tasks → AllByRecursion (LiveAll live) (all_handles tasks)
tasks_are_live live [] h = tt
tasks_are_live live (x ∷ tasks) h =
    all_joined (LiveAll live) (task_handles x) (all_handles tasks)
    (all_joined (LiveAll live) (name_handles x.names) (queue_handles x.queue)
    (names_are_live live x.names (λ p e. h p (or_left (task_holds p x) _ (or_left (list_any (λ (n : Named). has_place n.voucher p) x.names) _ e))))
    (queue_is_live live x.queue (λ p e. h p (or_left (task_holds p x) _
    (or_right (list_any (λ (n : Named). has_place n.voucher p) x.names) _
    (or_left (list_any (λ (q : Message). option_has q.voucher p) x.queue) (frame_holds x.frame p) e))))))
    (tasks_are_live live tasks (λ p e. h p (or_right (task_holds p x) _ e)))

pub vouchers_seen : (sc : Scenario) (m : Machine) → Fits sc m → different (all_vouchers (seen m).tasks) ≡ different_handles (all_handles m.tasks)
vouchers_seen sc m f = ap different (all_valued m.live m.tasks)
    ∙ counted_same m.live (all_handles m.tasks) f.different
    (tasks_are_live m.live m.tasks (λ p e. holder_live (spot m p) (f.spots p) e))
