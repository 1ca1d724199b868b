use Rattle.std.proofs.Common.{◌∙◌, arith, take, drop, length, [], ◌≡◌}
use Rattle.std.proofs.lemmas.List.{take_all}
use Rattle.std.proofs.lemmas.Grind.{common_steps}
use Rattle.vch_text.proofs.Fronts.{front_here, front_end, fronts_to, parts_are}
use Rattle.vch_text.proofs.words.front.Goals as goal

pub returns-in-Some : goal.returns-in-Some
returns-in-Some c =
    let bs = c.args.bytes.now in
    let at = c.in-Some.at in
    parts_are c.args.separator bs _ _ (take at bs) (drop at bs)
    (front_here c.args.separator bs at (c.in-Some.ensures.0.high) (grind (arith, common_steps)) (fronts_to c.args.separator bs at (omega arith) (λ k l. c.in-Some.ensures.0.before k (omega arith) l)))
    c.split_at.ensures.front c.split_at.ensures.back

pub returns-in-None : goal.returns-in-None
returns-in-None c =
    let bs = c.args.bytes.now in
    let all : take (length bs) bs ≡ bs = take_all (length bs) bs (omega arith) in
    let none : drop (length bs) bs ≡ [] = grind (arith, common_steps) in
    parts_are c.args.separator bs _ _ bs [] (front_end c.args.separator bs (length bs) (omega arith) (fronts_to c.args.separator bs (length bs) (omega arith) (λ k l. c.in-None.ensures k (omega arith) l)))
    (c.split_at-in-None.ensures.front ∙ all) (c.split_at-in-None.ensures.back ∙ none)
