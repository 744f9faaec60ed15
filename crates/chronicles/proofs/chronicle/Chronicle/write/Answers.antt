use Rattle.std.proofs.Common.{◌≡◌, ◌-◌, ◌<◌, min, List, [], ◌∷◌, ◌++◌, length, replicate, Some, None, Option, sym, ap, ◌∙◌, arith, length-append}
use Rattle.std.proofs.lemmas.Bool.{cond-true, lt-ltb}
use Rattle.std.proofs.lemmas.List.Sums.{fold_push}
use Rattle.ledgers.specs.Ids.{version_id}
use Rattle.ledgers.specs.Tables.{renumbered}
use Rattle.messages.specs.declared.metadata.Metadata.{Metadata}
use Rattle.places.specs.LentLogs.{records, room}
use Rattle.chronicles.specs.Chronicles.{history}
use Rattle.chronicles.specs.Replays.{changed, replayed}
use Rattle.chronicles.specs.declared.changes.Change.{Change}
use Rattle.chronicles.proofs.chronicle.Chronicle.write.Goals as goal

pub returns-clause-after : goal.returns-clause-after
returns-clause-after c =
    let s = c.args.self.now in
    let old = history s in
    let m = c.args.metadata in
    let l = c.args.ledger in
    let new : Change = record { ledger = l; state = m.state; layout = m.layout; closing = m.closing } in
    let lt : length old < room s.changes = omega (arith, c.requires.left) in
    let hist : records c.push.new.self ≡ old ++ (new ∷ []) = c.push.ensures.records ∙ cond-true _ _ _ (lt-ltb (length old) (room s.changes) lt) in
    let t = replayed old in
    let rows : replayed (records c.push.new.self) ≡ renumbered t l.0 (Some m) =
    ap replayed hist ∙ fold_push changed (replicate 16 None) old new
    ∙ ap (λ v. renumbered t l.0 (Some (record { version = version_id v; state = m.state; layout = m.layout; closing = m.closing })))
    (sym c.requires.version) in
    let left : min 60000 (room c.push.new.self) - length (records c.push.new.self) ≡ min 60000 (room s.changes) - length old - 1 =
    omega (arith, c.push.ensures.room, ap length hist, length-append old (new ∷ [])) in
    ap (λ (ls : List (Option Metadata)). record { ledgers = ls; changes = min 60000 (room c.push.new.self) - length (records c.push.new.self) }) rows
    ∙ ap (λ k. record { ledgers = renumbered t l.0 (Some m); changes = k }) left
