use Rattle.std.proofs.Common.{◌≡◌, true, take, None, sym, ap, ◌∙◌, arith}
use Rattle.std.proofs.lemmas.List.{length-take, take_all}
use Rattle.std.proofs.lemmas.Bool.Decides.{nat_tests}
use Rattle.ledgers.specs.Tables.{numbered}
use Rattle.ledgers.specs.Limits.{is_ledger}
use Rattle.protocol.specs.Stores.{known}
use Rattle.ledgers.proofs.Rows.{none_numbered}
use Rattle.chronicles.specs.Replays.{replayed}
use Rattle.chronicles.proofs.Replay.{length_replayed, kept_within, found_none, found_more}
use Rattle.chronicles.proofs.changes.latest.Goals as goal

pub returns-then-not-is_in_range : goal.returns-then-not-is_in_range
returns-then-not-is_in_range c =
    let cs = c.args.changes.now in sym (none_numbered (replayed cs) c.args.ledger.0 None (length_replayed cs) (cc))

pub loop-change-init : goal.loop-change-init
loop-change-init c = found_none c.args.ledger.0 (cc)

pub after-requires : goal.after-requires
after-requires c =
    let front = take c.loop-change.change-index c.args.changes.now in
    let version = ap (λ m. (known m).version.0) c.loop-change.invariant in
    omega (arith, version, kept_within front c.args.ledger.0, length-take c.loop-change.change-index c.args.changes.now)

pub loop-change-preserved : goal.loop-change-preserved
loop-change-preserved c =
    let there : is_ledger c.args.ledger.0 ≡ true = cc in
    let more =
    found_more c.args.changes.now c.loop-change.change-index c.args.ledger.0 c.change-item.result c.loop-change.found
    c.loop-change-test.true c.change-item.is there c.loop-change.invariant in
    grind (arith, nat_tests)

pub returns : goal.returns
returns c =
    c.loop-change.invariant
    ∙ ap (λ cs. numbered (replayed cs) c.args.ledger.0 None) (take_all c.loop-change.change-index c.args.changes.now (omega arith))
