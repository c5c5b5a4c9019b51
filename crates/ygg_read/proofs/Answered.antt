-- From what a callee answers to what its caller does.
use Rattle.std.proofs.Common.{Option, Some, None, IfSome, OnSome, IfNone}

-- what is read has another property that doesn't speak of it
pub on_some : {A : Type 0} (result : Option A) (P : A → Type 0) (Q : Type 0) → ((a : A) → P a → Q) → IfSome result P → OnSome result Q
on_some (Some a) P Q f h = f a h
on_some None P Q f h = h

pub if_none : {A : Type 0} (result : Option A) (P Q : Type 0) → (P → Q) → IfNone result P → IfNone result Q
if_none (Some a) P Q f h = h
if_none None P Q f h = f h
