-- What the calls leave, refusals included.
use Rattle.std.specs.Prelude.{List, []}
use Rattle.ledgers.specs.declared.bodies.Body.{Body}
use Rattle.ledgers.specs.declared.ids.LedgerId.{LedgerId}
use Rattle.messages.specs.Faults.{when_ok}
use Rattle.messages.specs.declared.messages.Message.{Message}
use Rattle.protocol.specs.Writers.{Writer, append_answer, appended, append_sends, resend_answer, resends}

-- the writer after an append,
abbrev pub append_after : Writer → Body → Writer
append_after w body = when_ok (append_answer w) (appended w body) w

-- and what it sends
abbrev pub append_sent : Writer → LedgerId → Body → List Message
append_sent w l body = when_ok (append_answer w) (append_sends w l body) []

-- what a resend sends
abbrev pub resend_sent : Writer → LedgerId → List Message
resend_sent w l = when_ok (resend_answer w) (resends w l) []
