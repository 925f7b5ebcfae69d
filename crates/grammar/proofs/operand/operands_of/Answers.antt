use Rattle.std.proofs.Common.{rules}
use Rattle.grammar.proofs.Lists.{lexed, not_seen, more_at, shut_none, shut_odd, shut_one, shut_two, shut_three, shut_four, three}
use Rattle.grammar.proofs.operand.operands_of.Goals as goal

pub returns-in_err-first : goal.returns-in_err-first
returns-in_err-first c = rw c.from_residual.ensures (search (rules, shut_none))

pub returns-in_err-a : goal.returns-in_err-a
returns-in_err-a c = rw c.from_residual-in_err-a.ensures (search (rules, shut_odd, not_seen))

pub returns-in_err-b : goal.returns-in_err-b
returns-in_err-b c = rw c.from_residual-in_err-b.ensures (search (rules, shut_one, lexed))

pub returns-in_err-c : goal.returns-in_err-c
returns-in_err-c c =
    let first = c.in_ok-first in
    let a = lexed c.args.rest.bytes.now first.first first.rest.bytes.now _ first.ensures.fronts c.in_ok-a.ensures.1 in
    rw c.from_residual-in_err-c.ensures (shut_two a (c.in-Some.b, c.in-Some.rest) (more_at first.rest.bytes.now c.in-Some.is c.in_ok-b.ensures) c.in_err-c.ensures)

pub returns-in_err-more_of : goal.returns-in_err-more_of
returns-in_err-more_of c =
    let first = c.in_ok-first in
    let a = lexed c.args.rest.bytes.now first.first first.rest.bytes.now _ first.ensures.fronts c.in_ok-a.ensures.1 in
    let b = more_at first.rest.bytes.now c.in-Some.is c.in_ok-b.ensures in
    rw c.from_residual-in_err-more_of.ensures (shut_three a (c.in-Some.b, c.in-Some.rest) b (c.in-Some-2.c, c.in-Some-2.rest) (more_at c.in-Some.rest.bytes.now c.in-Some-2.is c.in_ok-c.ensures) c.in_err-more_of.ensures)

pub returns-in-None : goal.returns-in-None
returns-in-None c =
    let first = c.in_ok-first in
    let a = lexed c.args.rest.bytes.now first.first first.rest.bytes.now _ first.ensures.fronts c.in_ok-a.ensures.1 in
    let b = more_at first.rest.bytes.now c.in-Some.is c.in_ok-b.ensures in
    let d = more_at c.in-Some.rest.bytes.now c.in-Some-2.is c.in_ok-c.ensures in
    ((c.in_ok-a.ensures.0, (b.0, (d.0, tt))), three a (c.in-Some.b, c.in-Some.rest) b (c.in-Some-2.c, c.in-Some-2.rest) d (more_at c.in-Some-2.rest.bytes.now c.in-None.is c.in_ok-more_of.ensures))

pub returns-in-Some-3 : goal.returns-in-Some-3
returns-in-Some-3 c =
    let first = c.in_ok-first in
    let a = lexed c.args.rest.bytes.now first.first first.rest.bytes.now _ first.ensures.fronts c.in_ok-a.ensures.1 in
    let b = more_at first.rest.bytes.now c.in-Some.is c.in_ok-b.ensures in
    let d = more_at c.in-Some.rest.bytes.now c.in-Some-2.is c.in_ok-c.ensures in
    shut_four a (c.in-Some.b, c.in-Some.rest) b (c.in-Some-2.c, c.in-Some-2.rest) d c.in-Some-3.field-0 (more_at c.in-Some-2.rest.bytes.now c.in-Some-3.is c.in_ok-more_of.ensures)
