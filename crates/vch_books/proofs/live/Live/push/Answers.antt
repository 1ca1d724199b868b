use Rattle.std.proofs.Common.{◌≡◌, ℕ, List, Some, false, cond, ap, sym, ◌∙◌, subst, ◌++◌, ◌∷◌, []}
use Rattle.std.specs.Map.{lookup}
use Rattle.std.specs.Prelude.{None}
use Rattle.vch_base.specs.Values.{is_default}
use Rattle.vch_model.specs.declared.entry.Entry.{Entry}
use Rattle.vch_books.specs.Holding.{number_with}
use Rattle.vch_books.specs.Numbered.{entry_at, key_made, numbered_value}
use Rattle.vch_books.specs.Living.{Content, Living, Indexed, IsBelow, same_content, content_of, found}
use Rattle.vch_books.proofs.Indexing.{indexed_new, inserted_is}
use Rattle.vch_books.proofs.live.Live.push.Goals as goal

abbrev of : List Entry → List ℕ → Living
of h l = record { history = h; numbers = l }

pub invariant_of-self-2 : goal.invariant_of-self-2
invariant_of-self-2 c =
    let s = c.self.inside in
    let h = s.history.now.entries in
    let n = c.args.number in
    let live = s.numbers.keys in
    let below : IsBelow live n = subst (λ (l : Living). IsBelow l.numbers n) (sym c.self.view_is) c.requires.above in
    let absent : number_with h live (key_made (entry_at h n)) (numbered_value h n) ≡ None =
    subst (λ (l : Living). number_with l.history l.numbers (key_made (entry_at l.history n)) (numbered_value l.history n) ≡ None) (sym c.self.view_is) c.requires.absent in
    let plain : is_default (numbered_value h n) ≡ false = subst (λ (l : Living). is_default (numbered_value l.history n) ≡ false) (sym c.self.view_is) c.requires.plain in
    let u = rw c.unwrap.ensures at c.insert-2.ensures.updates in
    subst (λ (l : List ℕ). Indexed c.insert-2.new.self h l) (sym (c.in_ok-insert.ensures.keys ∙ inserted_is live n below))
    (indexed_new s.index c.insert-2.new.self h live n c.self.invariant below absent plain
    (λ q. u.0 q
    ∙ ap (λ (k : Content). cond (same_content k q) (Some n) (found c.reserve.new.self q)) c.in-Some.ensures
    ∙ ap (λ (es : List (Content × ℕ)). cond (same_content (content_of h n) q) (Some n) (lookup (same_content q) es)) c.in_ok-reserve.ensures.entries))

pub returns : goal.returns
returns c =
    let s = c.self.inside in
    let n = c.args.number in
    let below : IsBelow s.numbers.keys n = subst (λ (l : Living). IsBelow l.numbers n) (sym c.self.view_is) c.requires.above in
    record { numbers = ap (λ (l : List ℕ). of s.history.now.entries l) (c.in_ok-insert.ensures.keys ∙ inserted_is s.numbers.keys n below) ∙ ap (λ (l : Living). of l.history (l.numbers ++ n ∷ [])) c.self.view_is }
