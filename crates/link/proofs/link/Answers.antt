-- `link::link` meets its contract: the law for a service on the sender's login; those for the other ways are found. Assumes nothing.
use Rattle.std.proofs.Common.{sym, ap, ◌∙◌, ◌+◌}
use Rattle.params.specs.Services.{service_with}
use Rattle.calls.specs.Turn.{served_in}
use Rattle.link.proofs.Ways.{at_seat}
use Rattle.link.proofs.link.Goals as goal

pub returns-in-Some : goal.returns-in-Some
returns-in-Some c =
    at_seat _ _ _ _ c.in-Ok.service (ap service_with (sym c.byte_at.ensures) ∙ sym c.try_from.ensures ∙ c.in-Ok.is) (c.if-frame-size_of.false ∙ ap (λ n. 24 + n) c.size_of.ensures.0)
    c.in_default-service.not-Plogi c.in_default-service.not-Logo c.in-Some.i c.in-Some.is (c.serve_at.ensures ∙ ap (served_in c.in-Some.i) c.serve.ensures)
