-- The value that a named voucher has at a key, from the answer of the look-up.
use Rattle.std.proofs.Common.{◌≡◌, ℕ, true, refl, ap, Option, Some, None, Result, Ok}
use Rattle.std.specs.Prelude.{IsSome, ℤ}
use Rattle.vch_base.specs.declared.key.Key.{Key}
use Rattle.vch_base.specs.Keyed.{of_key}
use Rattle.vch_base.specs.Managers.{live_at}
use Rattle.vch_model.specs.Lines.{is_task}
use Rattle.vch_frame.specs.Indices.{index_of}
use Rattle.vch_vouchers.specs.Desks.{Voucher, desk, voucher_of}
use Rattle.vch_parts.specs.declared.parts.Parts.{Parts}
use Rattle.vch_parts.specs.Reached.{plain_of, Reached}
use Rattle.vch_replies.specs.Told.{named_by, handle_in}
use Rattle.vch_answers.proofs.CallerLemmas.{named_is, live_voucher}
use Rattle.vch_carry.specs.Amounts.{handle_or, handle_of, named_handle}

module _ (p : Parts) (t : ℕ) (reached : Reached p) (task : is_task p.scenario t ≡ true) (name : ℕ) (k : Key) where
  pub record Found (h : ℕ) : Type 0 where
    pub voucher : Voucher
    pub named : named_by (plain_of p) t name ≡ Some voucher
    pub handle : handle_in (of_key k p.values) (index_of k voucher) ≡ Some h
    pub live : IsSome (live_at (of_key k p.values).kept.slots h)

  pub found : (h : ℕ) → named_handle p t name k ≡ Ok h → Found h
  found h e = by (voucher_of (desk p.vouchers t).names name) refl e
    where
      ok_eq : (a b : ℕ) → ◌≡◌ {A = Result ℕ ℤ} (Ok a) (Ok b) → a ≡ b
      ok_eq a b e = cc

      some_here : (o : Option ℕ) → handle_or o ≡ Ok h → o ≡ Some h
      some_here None e = absurd (cc)
      some_here (Some a) e = ap Some (ok_eq a h e)

      by : (o : Option Voucher) → voucher_of (desk p.vouchers t).names name ≡ o → handle_of p.values k o ≡ Ok h → Found h
      by None q e = absurd (cc)
      by (Some v) q e =
          let there = some_here (handle_in (of_key k p.values) (index_of k v)) e in
          record { voucher = v; named = named_is p t reached task name (Some v) q; handle = there; live = live_voucher p t reached task name k v h q there }
