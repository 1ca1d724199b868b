-- A name of a task goes, or loses a user reference, or its first message is taken.
use Rattle.std.proofs.Common.{◌≡◌, ◌≤◌, ◌+◌, ℕ, List, [], ◌∷◌, length, map, drop, slice_get, Option, None, Some, cond, nat_lt, ◌==◌, true, false, refl, sym, ap, ◌∙◌, subst, arith}
use Rattle.std.proofs.lemmas.Grind.{common_steps}
use Rattle.std.specs.List.{filter}
use Rattle.std.specs.Option.{IfSome, IsSome, option_map, option_to_list}
use Rattle.vch_base.specs.Slots.{slot_at}
use Rattle.vch_base.specs.Tasks.{set_task}
use Rattle.vch_table.proofs.CallerLemmas.{by_cases}
use Rattle.vch_table.specs.declared.table.Cell.{Cell}
use Rattle.vch_table.specs.Vouchers.{Vouchers}
use Rattle.vch_ports.specs.declared.space.Named as ports
use Rattle.vch_ports.specs.declared.mail.Message as mail
use Rattle.vch_ports.specs.Names.{Names, Spaced, by_name, given_up, is_other, looked}
use Rattle.vch_vouchers.specs.declared.desks.SlotDesk.{SlotDesk}
use Rattle.vch_vouchers.specs.Desks.{Desk, Voucher, desk, is_known, one_less, orphaned, voucher_of, without_name}
use Rattle.vch_vouchers.specs.Held.{AllSlotDesks, slot_gone}
use Rattle.vch_vouchers.specs.Slots.{Balanced, IsHeld, Releases, desk_at, desks_at, message_at, message_slots, name_slots, referred, slot_desk, slots_at, times, voucher_at, with_mail}
use Rattle.vch_vouchers.proofs.Known.{known_is}
use Rattle.vch_vouchers.proofs.Naming.{less_is, times_given_up, times_out, voucher_found, without_is}
use Rattle.vch_vouchers.proofs.Seen.{Leaves, desk_seen, inside, leaves, slot_live}
use Rattle.vch_vouchers.proofs.Sound.{at_desk}
use Rattle.vch_vouchers.proofs.Steps.{referred_live}
use Rattle.vch_vouchers.proofs.Times.{first_once, referred_by, referred_set, times_append}

some_more : (n : ℕ) → 1 ≤ n → nat_lt 0 n ≡ true
some_more n l = grind (arith, common_steps)

-- the slot of a message that may be missing
abbrev pub slot_in : Option mail.Message → Option ℕ
slot_in None = None
slot_in (Some q) = q.slot

kept_name : (x : ports.Named) → (x.references == 1) ≡ false → slot_gone (Some x) ≡ None
kept_name x k = rw k refl

last_name : (x : ports.Named) → (x.references == 1) ≡ true → slot_gone (Some x) ≡ Some x.slot
last_name x k = rw k refl

first_out : (s : ℕ) (qs : List mail.Message) → times s (message_slots (drop 1 qs)) + times s (option_to_list (slot_in (slice_get qs 0))) ≡ times s (message_slots qs)
first_out s [] = refl
first_out s (q ∷ qs) = let a = times_append s (option_to_list q.slot) (message_slots qs) in omega (arith, a)

rest_is : (table : List (Option Cell)) (qs : List mail.Message) → map (message_at table) (drop 1 qs) ≡ drop 1 (map (message_at table) qs)
rest_is table [] = refl
rest_is table (q ∷ qs) = refl

-- Slots that a task gives up are live.

module _ (table : List (Option Cell)) (ds : List SlotDesk) (t : ℕ) (vouchers : Vouchers table) (held : IsHeld table ds) (sound : AllSlotDesks ds) (n : (1 ≤ t) × (t ≤ length ds)) (slot : Option ℕ) where
  among : ((s : ℕ) → times s (option_to_list slot) ≤ times s (name_slots (slot_desk ds t).space.names)) → IfSome slot (λ s. IsSome (slot_at table s))
  among le = slot_live table vouchers ds [] t held.balanced n slot (λ s. let a = times_append s (name_slots (slot_desk ds t).space.names) (message_slots (slot_desk ds t).mail.messages) in let b = le s in omega (arith, a, b))

  pub gone_live : (name : ℕ) → slot ≡ slot_gone (by_name (slot_desk ds t).space.names name) → IfSome slot (λ s. IsSome (slot_at table s))
  gone_live name e = among (λ s. let a = times_given_up s name (slot_desk ds t).space.names (at_desk ds t sound n.0 n.1).spaced.names_differ in let b : times s (option_to_list slot) ≡ times s (option_to_list (slot_gone (by_name (slot_desk ds t).space.names name))) = ap (λ o. times s (option_to_list o)) e in omega (arith, a, b))

  pub out_live : (name : ℕ) → slot ≡ looked (by_name (slot_desk ds t).space.names name) → IfSome slot (λ s. IsSome (slot_at table s))
  out_live name e = among (λ s. let a = times_out s name (slot_desk ds t).space.names (at_desk ds t sound n.0 n.1).spaced.names_differ in let b : times s (option_to_list slot) ≡ times s (option_to_list (looked (by_name (slot_desk ds t).space.names name))) = ap (λ o. times s (option_to_list o)) e in omega (arith, a, b))

  pub first_live : slot ≡ slot_in (slice_get (slot_desk ds t).mail.messages 0) → IfSome slot (λ s. IsSome (slot_at table s))
  first_live e = slot_live table vouchers ds [] t held.balanced n slot (λ s. let a = times_append s (name_slots (slot_desk ds t).space.names) (message_slots (slot_desk ds t).mail.messages) in let d = first_out s (slot_desk ds t).mail.messages in let b : times s (option_to_list slot) ≡ times s (option_to_list (slot_in (slice_get (slot_desk ds t).mail.messages 0))) = ap (λ o. times s (option_to_list o)) e in omega (arith, a, d, b))

module _ (table new : List (Option Cell)) (ds after : List SlotDesk) (seen : List Desk) (t : ℕ) (answer : Option Voucher) (vouchers : Vouchers table) (held : IsHeld table ds) (sound : AllSlotDesks ds)
    (is : desks_at table ds ≡ seen) (task : (1 ≤ t) × (t ≤ length seen)) where
  n : (1 ≤ t) × (t ≤ length ds)
  n = inside table ds seen is t task

  abbrev pub own : SlotDesk
  own = slot_desk ds t

  spaced : Spaced own.space.names own.space.next
  spaced = (at_desk ds t sound n.0 n.1).spaced

  -- names change, the queue stays
  renamed : (ns : Names) (slot : Option ℕ) → ((s : ℕ) → times s (name_slots ns.names) + times s (option_to_list slot) ≡ times s (name_slots own.space.names)) → after ≡ set_task ds t (record own { space = ns }) → Releases slot table answer new
      → Leaves new after (set_task seen t (desk_at table (record own { space = ns }))) (option_map (voucher_at table) slot) answer
  renamed ns slot same left released = leaves table new ds after seen t (record own { space = ns }) [] slot answer vouchers held.balanced held.few is n
      (λ s. let a = times_append s (name_slots ns.names) (message_slots own.mail.messages) in let b = times_append s (name_slots own.space.names) (message_slots own.mail.messages) in let d = same s in omega (arith, a, b, d))
      left released

  pub removed : (ns : Names) (name : ℕ) (slot : Option ℕ) → slot ≡ looked (by_name own.space.names name) → ns.names ≡ filter (is_other name) own.space.names → ns.next ≡ own.space.next
      → after ≡ set_task ds t (record own { space = ns }) → Releases slot table answer new
      → Leaves new after (set_task seen t (record (desk seen t) { names = without_name (desk seen t).names name })) (voucher_of (desk seen t).names name) answer
  removed ns name slot gone names next left released =
      let seen_as : desk seen t ≡ desk_at table own = desk_seen table ds seen is t task in
      let r = renamed ns slot (λ s. rw (gone, names) (times_out s name own.space.names spaced.names_differ)) left released in
      let d : desk_at table (record own { space = ns }) ≡ record (desk seen t) { names = without_name (desk seen t).names name } = rw (seen_as, names, next, without_is table name own.space.names spaced.names_differ) refl in
      let v : option_map (voucher_at table) slot ≡ voucher_of (desk seen t).names name = ap (option_map (voucher_at table)) gone ∙ sym (voucher_found table name own.space.names) ∙ ap (λ (x : Desk). voucher_of x.names name) (sym seen_as) in
      record { held = r.held; seen = r.seen ∙ ap (set_task seen t) d; orphan = r.orphan ∙ ap (orphaned (desks_at new after)) v }

  pub dropped : (ns : Names) (name : ℕ) (slot : Option ℕ) → slot ≡ slot_gone (by_name own.space.names name) → ns.names ≡ given_up (by_name own.space.names name) name own.space.names → ns.next ≡ own.space.next
      → after ≡ set_task ds t (record own { space = ns }) → Releases slot table answer new
      → Leaves new after (set_task seen t (record (desk seen t) { names = one_less (desk seen t).names name })) (voucher_of (desk seen t).names name) answer
  dropped ns name slot gone names next left released =
      let seen_as : desk seen t ≡ desk_at table own = desk_seen table ds seen is t task in
      let r = renamed ns slot (λ s. rw (gone, names) (times_given_up s name own.space.names spaced.names_differ)) left released in
      let d : desk_at table (record own { space = ns }) ≡ record (desk seen t) { names = one_less (desk seen t).names name } = rw (seen_as, names, next, less_is table name own.space.names spaced.names_differ spaced.referred) refl in
      let v : voucher_of (desk seen t).names name ≡ option_map (voucher_at table) (looked (by_name own.space.names name)) = ap (λ (x : Desk). voucher_of x.names name) seen_as ∙ voucher_found table name own.space.names in
      record { held = r.held; seen = r.seen ∙ ap (set_task seen t) d; orphan = told r.held r.orphan ∙ ap (orphaned (desks_at new after)) (sym v) }
    where
      -- a name that stays has its voucher
      stays : IsHeld new after → (x : ports.Named) → by_name own.space.names name ≡ Some x → (x.references == 1) ≡ false → answer ≡ orphaned (desks_at new after) (Some (voucher_at table x.slot))
      stays h x e k =
          let none : slot ≡ None = gone ∙ ap slot_gone e ∙ kept_name x k in
          let free : (answer ≡ None) × (new ≡ table) = subst (λ o. Releases o table answer new) none released in
          let b : Balanced table after [] = subst (λ i. Balanced i after []) free.1 h.balanced in
          let out : times x.slot (name_slots (filter (is_other name) own.space.names)) + times x.slot (option_to_list (looked (by_name own.space.names name))) ≡ times x.slot (name_slots own.space.names) = times_out x.slot name own.space.names spaced.names_differ in
          let one : times x.slot (option_to_list (looked (by_name own.space.names name))) ≡ times x.slot (x.slot ∷ []) = ap (λ o. times x.slot (option_to_list (looked o))) e in
          let up : times x.slot (name_slots (given_up (by_name own.space.names name) name own.space.names)) + times x.slot (option_to_list (slot_gone (by_name own.space.names name))) ≡ times x.slot (name_slots own.space.names) = times_given_up x.slot name own.space.names spaced.names_differ in
          let zero_gone : times x.slot (option_to_list (slot_gone (by_name own.space.names name))) ≡ 0 = ap (λ o. times x.slot (option_to_list o)) (sym gone ∙ none) in
          let same : times x.slot (name_slots ns.names) ≡ times x.slot (name_slots (given_up (by_name own.space.names name) name own.space.names)) = ap (λ i. times x.slot (name_slots i)) names in
          let first = first_once x.slot [] in
          let split = times_append x.slot (name_slots ns.names) (message_slots own.mail.messages) in
          let whole : referred x.slot after + times x.slot (slots_at own) ≡ referred x.slot ds + times x.slot (slots_at (record own { space = ns })) = ap (λ i. referred x.slot i + times x.slot (slots_at own)) left ∙ referred_set x.slot ds t (record own { space = ns }) n.0 n.1 in
          let part = referred_by x.slot ds t n.0 n.1 in
          let has : 1 ≤ referred x.slot after = omega (arith, out, one, up, zero_gone, same, first, split, whole, part) in
          let known : is_known (desks_at table after) (voucher_at table x.slot) ≡ true = known_is table vouchers after [] b x.slot (referred_live table after [] b x.slot has) ∙ some_more (referred x.slot after) has in
          free.0 ∙ sym (ap (λ i. cond (is_known (desks_at i after) (voucher_at table x.slot)) None (Some (voucher_at table x.slot))) free.1 ∙ ap (λ b. cond b None (Some (voucher_at table x.slot))) known)

      told : IsHeld new after → answer ≡ orphaned (desks_at new after) (option_map (voucher_at table) slot) → answer ≡ orphaned (desks_at new after) (option_map (voucher_at table) (looked (by_name own.space.names name)))
      told h a = by (by_name own.space.names name) refl
        where
          by : (o : Option ports.Named) → by_name own.space.names name ≡ o → answer ≡ orphaned (desks_at new after) (option_map (voucher_at table) (looked o))
          by None e = a ∙ ap (λ i. orphaned (desks_at new after) (option_map (voucher_at table) i)) (gone ∙ ap slot_gone e)
          by (Some x) e = by_cases (x.references == 1) (λ b. (x.references == 1) ≡ b → answer ≡ orphaned (desks_at new after) (Some (voucher_at table x.slot)))
              (λ _ k. a ∙ ap (λ i. orphaned (desks_at new after) (option_map (voucher_at table) i)) (gone ∙ ap slot_gone e ∙ last_name x k)) (λ _ k. stays h x e k) refl

  -- the first message is taken
  pub received : (slot : Option ℕ) → slot ≡ slot_in (slice_get own.mail.messages 0) → after ≡ set_task ds t (with_mail own (drop 1 own.mail.messages)) → Releases slot table answer new
      → Leaves new after (set_task seen t (record (desk seen t) { queue = drop 1 (desk seen t).queue })) (option_map (voucher_at table) slot) answer
  received slot its left released =
      let r = leaves table new ds after seen t (with_mail own (drop 1 own.mail.messages)) [] slot answer vouchers held.balanced held.few is n
      (λ s. let a = times_append s (name_slots own.space.names) (message_slots (drop 1 own.mail.messages)) in let b = times_append s (name_slots own.space.names) (message_slots own.mail.messages) in let d = first_out s own.mail.messages in let e : times s (option_to_list slot) ≡ times s (option_to_list (slot_in (slice_get own.mail.messages 0))) = ap (λ o. times s (option_to_list o)) its in omega (arith, a, b, d, e))
      left released in
      record {
        held = r.held;
        seen = r.seen ∙ ap (set_task seen t) (rw (desk_seen table ds seen is t task, ← rest_is table own.mail.messages) refl);
        orphan = r.orphan;
      }
