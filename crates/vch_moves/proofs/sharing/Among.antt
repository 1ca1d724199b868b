-- A voucher of a name or a message holds its handles.
use Rattle.std.proofs.Common.{◌≡◌, ℕ, ◌+◌, ◌<◌, ◌≤◌, ◌||◌, Bool, true, false, cond, List, [], ◌∷◌, ◌++◌, refl, arith, sym, ap, ◌∙◌, subst, Some}
use Rattle.std.proofs.lemmas.List.Folds.{list_any-append}
use Rattle.vch_base.specs.declared.key.Key.{Key}
use Rattle.vch_base.specs.Keyed.{of_key}
use Rattle.vch_base.specs.Managers.{count}
use Rattle.vch_value.proofs.CallerLemmas.{count_in}
use Rattle.vch_machine.specs.Naming.{same_handles, is_known}
use Rattle.vch_machine.specs.State as machine
use Rattle.vch_machine.specs.State.{Handles, Machine, tasked, idle}
use Rattle.vch_legal.proofs.CallerLemmas.{handles_eq, IsAmong, before, behind, all_split}
use Rattle.vch_frame.specs.Indices.{listed}
use Rattle.vch_frame.proofs.CallerLemmas.{cases_of}
use Rattle.vch_parts.specs.Plain.{Plain}
use Rattle.vch_parts.specs.Pictures.{picture_of, task_vouchers, option_handles}
use Rattle.vch_moves.specs.Known.{holds_in, known_in, is_among, vouchers_in, frames_in}
use Rattle.vch_moves.proofs.holding.Different.{known_cons, same_self}
use Rattle.vch_moves.proofs.holding.Vouchers.{known_among, named_in, queued_in}
use Rattle.vch_moves.proofs.keeping.Counts.{picture_holds}

module _ (k : Key) (h : ℕ) where
  among_held : (w : Handles) (vs : List Handles) → is_among w vs ≡ true → holds_in k h w ≤ known_in k h vs
  among_held w [] e = absurd (cc)
  among_held w (v ∷ vs) e = cases_of (same_handles w v) (holds_in k h w ≤ known_in k h (v ∷ vs))
      (λ yes_. let z : w ≡ v = handles_eq w v yes_ in subst (λ u. holds_in k h u ≤ known_in k h (v ∷ vs)) (sym z) (first (is_among v vs) refl (λ q. among_held v vs q)))
      (λ no_. let z : is_among w vs ≡ true = rw no_ at e in later (known_cons k h v vs) (among_held w vs z))
    where
      first : (b : Bool) → is_among v vs ≡ b → (is_among v vs ≡ true → holds_in k h v ≤ known_in k h vs) → holds_in k h v ≤ known_in k h (v ∷ vs)
      first true q next = let a : known_in k h (v ∷ vs) ≡ 0 + known_in k h vs = known_cons k h v vs ∙ ap (λ b. cond b 0 (holds_in k h v) + known_in k h vs) q in let l = next q in omega (arith, a, l)
      first false q next = let a : known_in k h (v ∷ vs) ≡ holds_in k h v + known_in k h vs = known_cons k h v vs ∙ ap (λ b. cond b 0 (holds_in k h v) + known_in k h vs) q in omega (arith, a)

      later : known_in k h (v ∷ vs) ≡ cond (is_among v vs) 0 (holds_in k h v) + known_in k h vs → holds_in k h w ≤ known_in k h vs → holds_in k h w ≤ known_in k h (v ∷ vs)
      later a l = more _ _ _ _ a l
        where
          more : (x a b y : ℕ) → x ≡ a + b → y ≤ b → y ≤ x
          more x a b y p q = omega (arith, p, q)

  pub known_held : (c : Plain) (m : Machine) (w : Handles) → is_known m w ≡ true → of_key k w ≡ Some h → 0 < count h (picture_of k c m).holders
  known_held c m w known e =
      let one : holds_in k h w ≡ 1 = ap (λ o. count h (listed o)) e ∙ count_in h [] in
      let l : holds_in k h w ≤ known_in k h (vouchers_in m.tasks) = among_held w (vouchers_in m.tasks) (sym (known_among m w) ∙ known) in
      let a : count h (picture_of k c m).holders ≡ frames_in k h m.tasks + known_in k h (vouchers_in m.tasks) = picture_holds k h c m in
      omega (arith, one, l, a)

-- the voucher of the first message of a task is known
pub first_known : (m : Machine) (t : ℕ) (q : machine.Message) (queue : List machine.Message) (v : Handles) → IsAmong t m.tasks → (tasked m t).queue ≡ q ∷ queue → q.voucher ≡ Some v → is_known m v ≡ true
first_known m t q queue v among e f = known_among m v ∙ ap (is_among v) (all_split task_vouchers m.tasks t idle among)
    ∙ list_any-append (same_handles v) (before task_vouchers m.tasks t) (task_vouchers (tasked m t) ++ behind task_vouchers m.tasks t)
    ∙ ap (λ b. is_among v (before task_vouchers m.tasks t) || b) (list_any-append (same_handles v) (task_vouchers (tasked m t)) (behind task_vouchers m.tasks t)
    ∙ ap (λ b. b || is_among v (behind task_vouchers m.tasks t)) (list_any-append (same_handles v) (named_in (tasked m t).names) (queued_in (tasked m t).queue)
    ∙ ap (λ qs. is_among v (named_in (tasked m t).names) || is_among v (queued_in qs)) e
    ∙ ap (λ o. is_among v (named_in (tasked m t).names) || is_among v (option_handles o ++ queued_in queue)) f
    ∙ ap (λ b. is_among v (named_in (tasked m t).names) || (b || is_among v (queued_in queue))) (same_self v)
    ∙ either_ (is_among v (named_in (tasked m t).names))))
    ∙ either_ (is_among v (before task_vouchers m.tasks t))
  where
    either_ : (b : Bool) → (b || true) ≡ true
    either_ b = grind arith
