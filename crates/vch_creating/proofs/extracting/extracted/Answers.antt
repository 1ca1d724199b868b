use Rattle.std.proofs.Common.{ap, sym, ◌∙◌}
use Rattle.vch_base.specs.Keys.{key_of}
use Rattle.vch_parts.proofs.CallerLemmas.{desk_inside}
use Rattle.vch_creating.proofs.telling.Extracted.{is_tellable, none_told, no_key_told, key_told, code_told}
use Rattle.vch_creating.proofs.extracting.extracted.Goals as goal

pub voucher-requires : goal.voucher-requires
voucher-requires c = record { task = desk_inside c.args.parts.now c.args.task c.requires.reached c.requires.task }

pub returns-in_default-clause-ok : goal.returns-in_default-clause-ok
returns-in_default-clause-ok c = none_told c.args.parts.now c.args.task c.requires.reached c.requires.task c.args.name c.args.key c.of.result c.of.ensures
    (sym c.voucher.ensures ∙ c.in_default.is)

pub returns-in_default-of-clause-ok : goal.returns-in_default-of-clause-ok
returns-in_default-of-clause-ok c = no_key_told c.args.parts.now c.args.task c.requires.reached c.requires.task c.args.name c.args.key c.in-Some.voucher
    c.of-in_default-of.result c.of-in_default-of.ensures (sym c.voucher.ensures ∙ c.in-Some.is)
    (ap (λ n. key_of n c.args.key) (sym c.version.ensures.version) ∙ (sym c.of-2.ensures ∙ c.in_default-of.is))

pub content-requires : goal.content-requires
content-requires c = is_tellable c.args.parts.now c.args.task c.requires.reached c.requires.task c.args.name c.in-Some.voucher c.in-Some-of.key (sym c.voucher.ensures ∙ c.in-Some.is)

pub returns-in_err-bytes-clause-err : goal.returns-in_err-bytes-clause-err
returns-in_err-bytes-clause-err c = code_told c.args.parts.now c.args.task c.requires.reached c.requires.task c.args.name c.args.key c.from_residual.result c.in-Some.voucher c.in-Some-of.key
    (sym c.voucher.ensures ∙ c.in-Some.is) (ap (λ n. key_of n c.args.key) (sym c.version.ensures.version) ∙ (sym c.of-2.ensures ∙ c.in-Some-of.is))

pub returns-clause-ok : goal.returns-clause-ok
returns-clause-ok c = key_told c.args.parts.now c.args.task c.requires.reached c.requires.task c.args.name c.args.key c.in-Some.voucher c.in-Some-of.key c.in_ok-bytes.bytes
    (sym c.voucher.ensures ∙ c.in-Some.is) (ap (λ n. key_of n c.args.key) (sym c.version.ensures.version) ∙ (sym c.of-2.ensures ∙ c.in-Some-of.is)) c.in_ok-bytes.ensures
