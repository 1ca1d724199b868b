use Rattle.std.proofs.Common.{◌≡◌, ◌≢◌, ℕ, List, Bool, true, false, None, cond, ap, sym, ◌∙◌, subst, refl}
use Rattle.std.specs.Prelude.{not, ◌==◌}
use Rattle.vch_base.specs.Values.{is_default}
use Rattle.vch_base.specs.declared.value.Value.TheVariants as values
use Rattle.vch_model.specs.declared.entry.Entry.{Entry}
use Rattle.vch_books.specs.Holding.{is_one}
use Rattle.vch_books.specs.Kept.{without_number}
use Rattle.vch_books.specs.Numbered.{numbered_value}
use Rattle.vch_books.specs.Living.{Content, Living, Indexed, same_content, found}
use Rattle.vch_books.proofs.Indexing.{indexed_gone, removed_is, has_is, gone_is, others_are}
use Rattle.vch_books.proofs.live.Live.remove.Goals as goal

abbrev of : List Entry → List ℕ → Living
of h l = record { history = h; numbers = l }

pub returns-then-not-remove : goal.returns-then-not-remove
returns-then-not-remove c =
    let s = c.self.inside in
    ap (λ (l : List ℕ). of s.history.now.entries l) (c.remove.ensures.keys ∙ removed_is s.numbers.keys c.args.number) ∙ ap (λ (l : Living). of l.history (without_number l.numbers c.args.number)) c.self.view_is

pub invariant_of-self-in-Some : goal.invariant_of-self-in-Some
invariant_of-self-in-Some c =
    let s = c.self.inside in
    let h = s.history.now.entries in
    let n = c.args.number in
    indexed_gone s.index c.swap_remove.new.self h s.numbers.keys c.remove.new.self.keys n c.self.invariant
    (sym (has_is s.numbers.keys n) ∙ sym c.remove.ensures.test ∙ c.if-not-remove.false)
    (gone_is s.numbers.keys c.remove.new.self.keys n c.remove.ensures.updates.0)
    (others_are s.numbers.keys c.remove.new.self.keys n c.remove.ensures.updates.0)
    (λ q. c.swap_remove.ensures.updates.0 q ∙ ap (λ (k : Content). cond (same_content k q) None (found s.index q)) c.in-Some.ensures)

pub invariant_of-self-in_default : goal.invariant_of-self-in_default
invariant_of-self-in_default c =
    let s = c.self.inside in
    let h = s.history.now.entries in
    let n = c.args.number in
    let plain = c.self.invariant.plain n (sym (has_is s.numbers.keys n) ∙ sym c.remove.ensures.test ∙ c.if-not-remove.false) in
    let z : true ≡ false = sym (ap is_default c.in_default.ensures) ∙ plain in
    absurd (cc)

pub returns-in-Some : goal.returns-in-Some
returns-in-Some c =
    let s = c.self.inside in
    ap (λ (l : List ℕ). of s.history.now.entries l) (c.remove.ensures.keys ∙ removed_is s.numbers.keys c.args.number) ∙ ap (λ (l : Living). of l.history (without_number l.numbers c.args.number)) c.self.view_is

pub returns-in_default : goal.returns-in_default
returns-in_default c =
    let s = c.self.inside in
    ap (λ (l : List ℕ). of s.history.now.entries l) (c.remove.ensures.keys ∙ removed_is s.numbers.keys c.args.number) ∙ ap (λ (l : Living). of l.history (without_number l.numbers c.args.number)) c.self.view_is
