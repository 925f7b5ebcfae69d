use Rattle.std.proofs.Common.{rules}
use Rattle.program.proofs.Outcomes.{kept}
use Rattle.program.proofs.rules.keeps_rules.Goals as goal

pub returns : goal.returns
returns c = record {
  length_good = search rules;
  words_good = kept _ c.keeps.result c.keeps.ensures c.map_err.ensures.variant c.in_ok-map_err.was;
  ending_good = kept _ c.keeps-2.result c.keeps-2.ensures c.map_err-2.ensures.variant c.in_ok-map_err-2.was;
  targets_good = kept _ c.keeps-3.result c.keeps-3.ensures c.map_err-3.ensures.variant c.in_ok-map_err-3.was;
  setx_good = kept _ c.keeps-4.result c.keeps-4.ensures c.map_err-4.ensures.variant c.in_ok-map_err-4.was;
  loops_good = kept _ c.keeps-5.result c.keeps-5.ensures c.map_err-5.ensures.variant c.in_ok-map_err-5.was;
  entries_good = kept _ c.keeps-6.result c.keeps-6.ensures c.map_err-6.ensures.variant c.in_ok-map_err-6.was;
}
