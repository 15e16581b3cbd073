-- The service parameter page that PRLI and PRLO carry (document 01, "Link services").
use Rattle.std.specs.Prelude.{ℕ, List, get_or}
use Rattle.wire.specs.Bytes.{num}
use Rattle.link.specs.declared.on_login.Page.{Page}

-- what is looked at of it in a frame, whose word w of the payload starts at byte 24 + 4 w: "B1-3", "W1/B0", "W1/B2", "W4"
abbrev pub page_of : List ℕ → Page
page_of f = record { lengths = num 3 f 25; protocol = get_or f 28 0; flags = get_or f 30 0; roles = get_or f 43 0 }
