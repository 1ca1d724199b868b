use Rattle.std.proofs.Common.{◌≡◌, ap, sym, ◌∙◌, subst, refl}
use Rattle.vch_books.specs.Audits.{Audit}
use Rattle.vch_books.specs.Kept.{Lists, Keeps}
use Rattle.std.specs.Prelude.{List}
use Rattle.vch_base.specs.Keys.{number_of}
use Rattle.vch_model.specs.declared.entry.Entry.{Entry}
use Rattle.std.specs.Prelude.{is_some}
use Rattle.vch_books.specs.Holding.{number_with}
use Rattle.vch_books.proofs.Alike.{default_is}
use Rattle.vch_books.proofs.FoundLive.{live_found, found_value, found_stands, default_eq}
use Rattle.vch_books.proofs.books.Books.find.Goals as goal

pub returns-then-is_default-clause-value : goal.returns-then-is_default-clause-value
returns-then-is_default-clause-value c = default_is c.args.self.now.history 0 refl ∙ default_eq c.args.value.now (sym c.is_default.ensures ∙ c.if-is_default.true)

pub returns-clause-live : goal.returns-clause-live
returns-clause-live c =
    let s = c.self.inside in
    let a = c.args.self.now in
    let l : Lists = record { tasks = s.tasks; live = s.live.value.numbers; phases = s.phases; places = s.places; sums = s.sums.value } in
    let k : Keeps a l = subst (λ (x : Audit). Keeps x l) c.self.view_is c.self.invariant in
    let own = ap (λ (x : Audit). x.history) c.self.view_is in
    let e : c.find.result ≡ number_with a.history s.live.value.numbers (number_of c.args.key) c.args.value.now = rw (c.find.ensures, c.number.ensures, c.deref.ensures) (ap (λ (h : List Entry). number_with h s.live.value.numbers (number_of c.args.key) c.args.value.now) own) in
    ap is_some e ∙ live_found a l k (number_of c.args.key) c.args.value.now (sym c.is_default.ensures ∙ c.if-is_default.false)

pub returns-clause-value : goal.returns-clause-value
returns-clause-value c =
    let s = c.self.inside in
    let a = c.args.self.now in
    let l : Lists = record { tasks = s.tasks; live = s.live.value.numbers; phases = s.phases; places = s.places; sums = s.sums.value } in
    let k : Keeps a l = subst (λ (x : Audit). Keeps x l) c.self.view_is c.self.invariant in
    let own = ap (λ (x : Audit). x.history) c.self.view_is in
    let e : c.find.result ≡ number_with a.history s.live.value.numbers (number_of c.args.key) c.args.value.now = rw (c.find.ensures, c.number.ensures, c.deref.ensures) (ap (λ (h : List Entry). number_with h s.live.value.numbers (number_of c.args.key) c.args.value.now) own) in
    found_value a.history s.live.value.numbers (number_of c.args.key) c.args.value.now c.find.result (sym e)

pub returns-clause-stands : goal.returns-clause-stands
returns-clause-stands c =
    let s = c.self.inside in
    let a = c.args.self.now in
    let l : Lists = record { tasks = s.tasks; live = s.live.value.numbers; phases = s.phases; places = s.places; sums = s.sums.value } in
    let k : Keeps a l = subst (λ (x : Audit). Keeps x l) c.self.view_is c.self.invariant in
    let own = ap (λ (x : Audit). x.history) c.self.view_is in
    let e : c.find.result ≡ number_with a.history s.live.value.numbers (number_of c.args.key) c.args.value.now = rw (c.find.ensures, c.number.ensures, c.deref.ensures) (ap (λ (h : List Entry). number_with h s.live.value.numbers (number_of c.args.key) c.args.value.now) own) in
    found_stands a l k c.args.key c.args.value.now c.find.result (sym e)
