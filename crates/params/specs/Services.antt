-- The link services by their codes (document 01, "Link services").
use Rattle.std.specs.Prelude.{ℕ, List, [], ◌∷◌, eqb, Ok, Err, Result}
use Rattle.tables.specs.Firsts.{first_of}
use Rattle.params.specs.declared.Service.{Service}
use Rattle.params.specs.declared.Service.TheVariants.{Plogi, Logo, Rrq, Prli, Prlo, Pdisc, Adisc}
use Rattle.params.specs.declared.OtherCode.{OtherCode}

-- "PLOGI 03h, LOGO 05h, RRQ 12h, PRLI 20h, PRLO 21h, PDISC 50h, ADISC 52h"
abbrev pub code_of : Service → ℕ
code_of Plogi = 0x03
code_of Logo = 0x05
code_of Rrq = 0x12
code_of Prli = 0x20
code_of Prlo = 0x21
code_of Pdisc = 0x50
code_of Adisc = 0x52

abbrev pub services : List Service
services = Plogi ∷ Logo ∷ Rrq ∷ Prli ∷ Prlo ∷ Pdisc ∷ Adisc ∷ []

-- the service that has this code, none for another code
unfoldable pub service_with : ℕ → Result Service OtherCode
service_with code = first_of (λ s. eqb code (code_of s)) services Ok (Err record {})
