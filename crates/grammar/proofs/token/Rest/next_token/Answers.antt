use Rattle.grammar.specs.declared.token.Run.TheVariants.{Spaces}
use Rattle.grammar.proofs.Fronts.{runs_leading, fronts_behind}
use Rattle.grammar.proofs.token.Rest.next_token.Goals as goal

pub front_token-requires : goal.front_token-requires
front_token-requires c = rw (c.split_at.ensures.rest, c.run_len.ensures.value) (runs_leading Spaces c.args.self.bytes.now).1

pub returns-clause-fronts : goal.returns-clause-fronts
returns-clause-fronts c =
    fronts_behind c.args.self.bytes.now c.front_token.result (rw (c.split_at.ensures.rest, c.run_len.ensures.value) at c.front_token.ensures.fronts)
