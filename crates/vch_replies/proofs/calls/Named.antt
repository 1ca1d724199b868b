-- Replies that tell of one ledger, or of the values of one voucher.
use Rattle.std.proofs.Common.{◌≡◌, ℕ, sym, ap}
use Rattle.vch_bank.specs.Bank.{ledger_of}
use Rattle.vch_model.specs.declared.call.Call.TheVariants as calls
use Rattle.vch_model.specs.declared.entry.Reply.TheVariants as replies
use Rattle.vch_model.specs.declared.lists.Scenario.{Scenario}
use Rattle.vch_model.specs.Replies.{extracted, recipes_of}
use Rattle.vch_machine.specs.Beginning.{store_reply}
use Rattle.vch_machine.specs.State.{Machine}
use Rattle.vch_parts.specs.Plain.{Plain}
use Rattle.vch_replies.specs.Begins.{Begins}
use Rattle.vch_replies.specs.Told.{values_by}
use Rattle.vch_replies.proofs.named.Named.{named_here}

module _ (sc : Scenario) (c : Plain) (m : Machine) (t : ℕ) (b : Begins sc c m t) where
  pub ledger_reply : store_reply sc m t calls.Ledger ≡ replies.Ledger (ledger_of c.keyed.bank.kept.ledgers t)
  ledger_reply = ap replies.Ledger (sym (b.stands.ledgers.each t b.task))

  pub extract_reply : (name key : ℕ) → store_reply sc m t (calls.Extract name key) ≡ extracted sc.version key (values_by c t name)
  extract_reply name key = ap (extracted sc.version key) (named_here sc c m t name b)

  pub recipes_reply : (name : ℕ) → store_reply sc m t (calls.Recipes name) ≡ recipes_of t (values_by c t name)
  recipes_reply name = ap (recipes_of t) (named_here sc c m t name b)
