-- Where an exchange stands.
use Rattle.std.specs.Prelude.{ℕ}

-- at place j of the login at place i, at the login at place i but at no place there, or at no login
pub data Standing : Type 0 where
  Open : (i j : ℕ) → Standing
  NoExchange : (i : ℕ) → Standing
  NoLogin : Standing
