use Rattle.cp_scan.proofs.Outcomes.{answer_spells, answer_rises, answer_only, answer_first, answer_none, answer_refused}
use Rattle.cp_scan.proofs.scanning.scan.Goals as goal

pub returns-clause-spelled : goal.returns-clause-spelled
returns-clause-spelled c = answer_spells c.args.text.now c.all_tokens.result c.all_tokens.ensures.tokens

pub returns-clause-spans : goal.returns-clause-spans
returns-clause-spans c = answer_rises c.args.text.now c.all_tokens.result c.all_tokens.ensures.tokens

pub returns-clause-only : goal.returns-clause-only
returns-clause-only c = λ tokens h le. answer_only c.args.text.now c.all_tokens.result c.all_tokens.ensures.tokens c.all_tokens.ensures.fails tokens h

pub returns-clause-first : goal.returns-clause-first
returns-clause-first c = answer_first c.args.text.now c.all_tokens.result c.if-text-gt-MAX_SOURCE_BYTES.false c.all_tokens.ensures.fails

pub returns-clause-none : goal.returns-clause-none
returns-clause-none c = answer_none c.args.text.now c.all_tokens.result c.all_tokens.ensures.fails

pub returns-clause-refused : goal.returns-clause-refused
returns-clause-refused c = λ cause at h.
    answer_refused c.args.text.now c.all_tokens.result c.if-text-gt-MAX_SOURCE_BYTES.false c.all_tokens.ensures.tokens c.all_tokens.ensures.fails cause at h
