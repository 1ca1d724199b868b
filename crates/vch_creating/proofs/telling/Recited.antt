-- A request for the recipe of a name: what the machine replies, told by the parts.
use Rattle.std.proofs.Common.{◌≡◌, ℕ, true, false, refl, sym, ap, ◌∙◌, not, Option, Some, None}
use Rattle.std.specs.Prelude.{Err, IfSome, IsSome, Ok, OnErr, Result, if◌then◌else◌}
use Rattle.std.specs.Option.{option_map}
use Rattle.vch_base.specs.declared.codes.TheConstants.{KERN_RESOURCE_SHORTAGE}
use Rattle.vch_base.specs.declared.key.Key.{Key}
use Rattle.vch_base.specs.Keyed.{of_key}
use Rattle.vch_base.specs.Managers.{live_at}
use Rattle.vch_entry.specs.Entries.{entry_at, handle_at}
use Rattle.vch_model.specs.Legal.{has_code}
use Rattle.vch_model.specs.Lines.{is_task}
use Rattle.vch_model.specs.Replies.{refused, recipes_of}
use Rattle.vch_model.specs.declared.call.Call.{Call}
use Rattle.vch_model.specs.declared.call.Call.TheVariants as calls
use Rattle.vch_model.specs.declared.entry.Reply.{Reply}
use Rattle.vch_machine.specs.Beginning.{begin_call, or_want, store_reply}
use Rattle.vch_machine.specs.Frames.{replied}
use Rattle.vch_machine.specs.State.{Machine}
use Rattle.vch_frame.specs.Indices.{index_of}
use Rattle.vch_vouchers.specs.Desks.{Voucher, desk, voucher_of}
use Rattle.vch_parts.specs.declared.parts.Parts.{Parts}
use Rattle.vch_parts.specs.Reached.{plain_of, Reached}
use Rattle.vch_moves.specs.Steps.{machine_begun}
use Rattle.vch_replies.specs.Told.{handle_in, values_of}
use Rattle.vch_replies.proofs.CallerLemmas.{begins, recipes_reply}
use Rattle.vch_answers.proofs.CallerLemmas.{Moment, named_is, entry_named, live_voucher}
use Rattle.vch_creating.specs.Reciting.{recipes_told}
use Rattle.vch_creating.specs.Telling.{AreLive}

-- Each value of a named voucher is live.

module _ (p : Parts) (t : ℕ) (reached : Reached p) (task : is_task p.scenario t ≡ true) (name : ℕ) (v : Voucher) (named : voucher_of (desk p.vouchers t).names name ≡ Some v) where
  handle_live : (k : Key) (i : ℕ) → index_of k v ≡ Some i → (o : Option ℕ) → handle_at (of_key k p.values).entries.slots i ≡ o
      → IfSome o (λ h. IsSome (live_at (of_key k p.values).kept.slots h))
  handle_live k i e None q = tt
  handle_live k i e (Some h) q = live_voucher p t reached task name k v h named (ap (handle_in (of_key k p.values)) e ∙ q)

  live_here : (k : Key) (o : Option ℕ) → index_of k v ≡ o
      → IfSome o (λ i. IsSome (entry_at (of_key k p.values).entries.slots i) × IfSome (handle_at (of_key k p.values).entries.slots i) (λ h. IsSome (live_at (of_key k p.values).kept.slots h)))
  live_here k None e = tt
  live_here k (Some i) e = (entry_named p t reached task name k v i named e, handle_live k i e (handle_at (of_key k p.values).entries.slots i) refl)

  pub named_live : AreLive p.values v
  named_live k = live_here k (index_of k v) refl

-- What is told of a name.

pub on_err : {A E P : Type 0} → (r : Result A E) → P → OnErr r P
on_err (Ok x) p = tt
on_err (Err e) p = p

module _ (p : Parts) (t : ℕ) (reached : Reached p) (task : is_task p.scenario t ≡ true) (name : ℕ) where
  pub told_of : (o : Option Voucher) → voucher_of (desk p.vouchers t).names name ≡ o → recipes_told p t name ≡ recipes_of t (option_map (values_of p.values) o)
  told_of o e = ap (λ o. recipes_of t (option_map (values_of p.values) o)) (named_is p t reached task name o e)

  pub wants_of : (v : Voucher) → voucher_of (desk p.vouchers t).names name ≡ Some v → has_code (recipes_told p t name) ≡ false
  wants_of v e = ap has_code (told_of (Some v) e)

-- The machine's reply.

wanted : (reply : Reply) → has_code reply ≡ false → or_want true reply ≡ refused KERN_RESOURCE_SHORTAGE
wanted reply e = ap (λ b. if not b then refused KERN_RESOURCE_SHORTAGE else reply) e

module _ (p : Parts) (t : ℕ) (task : is_task p.scenario t ≡ true) (name : ℕ) where
  abbrev call : Call
  call = calls.Recipes name

  here : (m : Machine) → Moment p t call m → store_reply p.scenario m t call ≡ recipes_told p t name
  here m x = recipes_reply p.scenario (plain_of p) m t (begins p.scenario (plain_of p) m t x.state task) name

  pub recipes_reply_told : (reply : Reply) → reply ≡ recipes_told p t name → (m : Machine) → Moment p t call m
      → begin_call p.scenario false (machine_begun m t) t call (store_reply p.scenario m t call) ≡ replied (machine_begun m t) t call reply
  recipes_reply_told reply is m x = ap (replied (machine_begun m t) t call) (here m x ∙ sym is)

  pub recipes_want_told : has_code (recipes_told p t name) ≡ false → (m : Machine) → Moment p t call m
      → begin_call p.scenario true (machine_begun m t) t call (store_reply p.scenario m t call) ≡ replied (machine_begun m t) t call (refused KERN_RESOURCE_SHORTAGE)
  recipes_want_told wants m x = ap (replied (machine_begun m t) t call) (ap (or_want true) (here m x) ∙ wanted (recipes_told p t name) wants)
