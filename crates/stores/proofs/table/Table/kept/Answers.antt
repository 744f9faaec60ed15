use Rattle.std.proofs.Common.{◌≤◌, None, sym, subst, rules}
use Rattle.std.proofs.lemmas.List.{get_or_default}
use Rattle.protocol.specs.Stores.{known}
use Rattle.stores.proofs.Within.{version_within}
use Rattle.stores.proofs.table.Table.kept.Goals as goal

pub returns-in-Some-clause-version : goal.returns-in-Some-clause-version
returns-in-Some-clause-version c =
    let t = c.args.self.now in
    let read = get_or_default t.ledgers c.in-Some.row c.index-self-row.result None (search rules) in
    subst (λ r. (known r).version.0 ≤ t.made) (sym read) (version_within t.made t.ledgers c.in-Some.row t.counted)
