use Rattle.std.proofs.Common.{◌+◌, ◌<◌, arith, ap, sym, subst, length, ◌∙◌, ◌≡◌, None, false}
use Rattle.vch_books.specs.Audits.{Audit}
use Rattle.vch_books.specs.Kept.{Lists, Keeps}
use Rattle.std.specs.Prelude.{List, ◌++◌, ◌∷◌, []}
use Rattle.vch_model.specs.declared.entry.Entry.TheVariants as entries
use Rattle.vch_books.specs.Audits.{past_at, advanced, IsNext}
use Rattle.vch_books.proofs.Lists.{inside_of}
use Rattle.vch_books.proofs.Keeping.{past_long}
use Rattle.vch_books.specs.Living.{Living, IsBelow}
use Rattle.vch_books.proofs.LiveChanges.{keeps_made}
use Rattle.vch_books.proofs.Making.{made_above, not_live, made_plain}
use Rattle.vch_sums.specs.Summed.{Summed, Follows}
use Rattle.vch_books.specs.Holding.{number_with}
use Rattle.vch_books.specs.Numbered.{entry_at, key_made, numbered_value}
use Rattle.vch_base.specs.Values.{is_default}
use Rattle.vch_books.proofs.books.Books.made.Goals as goal

pub overflow_add-number : goal.overflow_add-number
overflow_add-number c =
    let s = c.self.inside in
    let a : Audit = record { scenario = s.scenario.now; history = s.live.value.history; taken = s.taken } in
    let l : Lists = record { tasks = s.tasks; live = s.live.value.numbers; phases = s.phases; places = s.places; sums = s.sums.value } in
    let h = a.history in
    let k : Keeps a l = c.self.invariant in
    let n : IsNext a (entries.Made c.args.key c.args.value.now) = subst (λ (x : Audit). IsNext x (entries.Made c.args.key c.args.value.now)) (sym c.self.view_is) c.requires.next in
    let i : a.taken < length a.history = inside_of a.history a.taken (entries.Made c.args.key c.args.value.now) n.here in
    let f : length a.history < 4294967296 = k.short in
    omega (arith, i, f)

pub push-requires-clause-above : goal.push-requires-clause-above
push-requires-clause-above c =
    let s = c.self.inside in
    let a : Audit = record { scenario = s.scenario.now; history = s.live.value.history; taken = s.taken } in
    let l : Lists = record { tasks = s.tasks; live = s.live.value.numbers; phases = s.phases; places = s.places; sums = s.sums.value } in
    let k : Keeps a l = c.self.invariant in
    let n : IsNext a (entries.Made c.args.key c.args.value.now) = subst (λ (x : Audit). IsNext x (entries.Made c.args.key c.args.value.now)) (sym c.self.view_is) c.requires.next in
    subst (λ (x : Living). IsBelow x.numbers (s.taken + 1)) (sym c.deref_mut.ensures.value) (made_above a l c.args.key c.args.value.now k n)

pub push-requires-clause-absent : goal.push-requires-clause-absent
push-requires-clause-absent c =
    let s = c.self.inside in
    let a : Audit = record { scenario = s.scenario.now; history = s.live.value.history; taken = s.taken } in
    let l : Lists = record { tasks = s.tasks; live = s.live.value.numbers; phases = s.phases; places = s.places; sums = s.sums.value } in
    let k : Keeps a l = c.self.invariant in
    let n : IsNext a (entries.Made c.args.key c.args.value.now) = subst (λ (x : Audit). IsNext x (entries.Made c.args.key c.args.value.now)) (sym c.self.view_is) c.requires.next in
    subst (λ (x : Living). number_with x.history x.numbers (key_made (entry_at x.history (s.taken + 1))) (numbered_value x.history (s.taken + 1)) ≡ None) (sym c.deref_mut.ensures.value) (not_live a l c.args.key c.args.value.now k n)

pub push-requires-clause-plain : goal.push-requires-clause-plain
push-requires-clause-plain c =
    let s = c.self.inside in
    let a : Audit = record { scenario = s.scenario.now; history = s.live.value.history; taken = s.taken } in
    let l : Lists = record { tasks = s.tasks; live = s.live.value.numbers; phases = s.phases; places = s.places; sums = s.sums.value } in
    let k : Keeps a l = c.self.invariant in
    let n : IsNext a (entries.Made c.args.key c.args.value.now) = subst (λ (x : Audit). IsNext x (entries.Made c.args.key c.args.value.now)) (sym c.self.view_is) c.requires.next in
    subst (λ (x : Living). is_default (numbered_value x.history (s.taken + 1)) ≡ false) (sym c.deref_mut.ensures.value) (made_plain a l c.args.key c.args.value.now k n)

pub invariant_of-self : goal.invariant_of-self
invariant_of-self c =
    let s = c.self.inside in
    let a : Audit = record { scenario = s.scenario.now; history = s.live.value.history; taken = s.taken } in
    let l : Lists = record { tasks = s.tasks; live = s.live.value.numbers; phases = s.phases; places = s.places; sums = s.sums.value } in
    let k : Keeps a l = c.self.invariant in
    let n : IsNext a (entries.Made c.args.key c.args.value.now) = subst (λ (x : Audit). IsNext x (entries.Made c.args.key c.args.value.now)) (sym c.self.view_is) c.requires.next in
    let f = subst (λ (x : Summed). Follows a.scenario (past_at a) (entries.Made c.args.key c.args.value.now) x c.made.new.self) c.deref_mut-2.ensures.value (c.in_ok-made.ensures (past_at a) c.args.key (ap (λ i. i + 1) (sym (past_long a k.inside)))) in
    subst (λ (x : Living). Keeps (record (advanced a) { history = x.history }) (record l { live = x.numbers; sums = c.made.new.self })) (sym (c.in_ok-push.ensures.numbers ∙ ap (λ (x : Living). record x { numbers = x.numbers ++ (s.taken + 1) ∷ [] }) c.deref_mut.ensures.value))
    (keeps_made a l c.made.new.self c.args.key c.args.value.now k n f)
