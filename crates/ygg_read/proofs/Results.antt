-- What follows of what was read.
use Rattle.std.proofs.Common.{◌≡◌, Option, Some, None, Result, Ok, Err, IfSome, OnSome, subst}
use Rattle.ygg_list.specs.declared.memory.NoMemory.{NoMemory}
use Rattle.ygg_read.specs.ExpressionSteps.{IfRead, OnRead, IfRefused}

pub where_read : {A : Type 0} (result : Result (Option A) NoMemory) (P Q : A → Type 0) → ((read : A) → P read → Q read) → IfRead result P → IfRead result Q
where_read (Ok (Some read)) P Q f h = f read h
where_read (Ok None) P Q f h = h
where_read (Err e) P Q f h = h

-- what follows of two facts
pub where_both : {A : Type 0} (result : Result (Option A) NoMemory) (P Q R : A → Type 0) → ((read : A) → P read → Q read → R read) →
    IfRead result P → IfRead result Q → IfRead result R
where_both (Ok (Some read)) P Q R f h k = f read h k
where_both (Ok None) P Q R f h k = h
where_both (Err e) P Q R f h k = h

pub where_gone : {A : Type 0} (result : Result (Option A) NoMemory) (P Q : Type 0) → (P → Q) → OnRead result P → OnRead result Q
where_gone (Ok (Some read)) P Q f h = f h
where_gone (Ok None) P Q f h = h
where_gone (Err e) P Q f h = h

pub where_refused : {A : Type 0} (result : Result (Option A) NoMemory) (P Q : Type 0) → (P → Q) → IfRefused result P → IfRefused result Q
where_refused (Ok (Some read)) P Q f h = h
where_refused (Ok None) P Q f h = f h
where_refused (Err e) P Q f h = h

-- the same where memory doesn't matter
pub where_some : {A : Type 0} (result : Option A) (P Q : Type 0) → (P → Q) → OnSome result P → OnSome result Q
where_some (Some read) P Q f h = f h
where_some None P Q f h = h

-- what follows of two parts that were put together, from what is known of each
pub where_joined : {A B : Type 0} (first : A) (second : Result (Option B) NoMemory) (result : Result (Option (A × B)) NoMemory) (R : A × B → Type 0) →
    IfRead result (λ parts. (first ≡ parts.0) × (second ≡ Ok (Some parts.1)))
    → ((parts : A × B) → first ≡ parts.0 → second ≡ Ok (Some parts.1) → R parts) → IfRead result R
where_joined first second (Ok (Some parts)) R joined f = f parts joined.0 joined.1
where_joined first second (Ok None) R joined f = joined
where_joined first second (Err e) R joined f = joined

-- the same where the second part was gone over
pub where_joined_gone : {A B : Type 0} (first : A) (second : Result (Option B) NoMemory) (result : Result (Option (A × B)) NoMemory) (P Q : Type 0) →
    IfRead result (λ parts. (first ≡ parts.0) × (second ≡ Ok (Some parts.1))) → OnRead second P → (P → Q) → OnRead result Q
where_joined_gone first second (Ok (Some parts)) P Q joined gone f = f (subst (λ (s : Result (Option _) NoMemory). OnRead s P) joined.1 gone)
where_joined_gone first second (Ok None) P Q joined gone f = joined
where_joined_gone first second (Err e) P Q joined gone f = joined

-- the same where the second part wasn't there
pub where_joined_refused : {A B : Type 0} (second : Result (Option B) NoMemory) (result : Result (Option A) NoMemory) (P Q : Type 0) →
    IfRefused result (second ≡ Ok None) → IfRefused second P → (P → Q) → IfRefused result Q
where_joined_refused second (Ok (Some parts)) P Q none stopped f = none
where_joined_refused second (Ok None) P Q none stopped f = f (subst (λ (s : Result (Option _) NoMemory). IfRefused s P) none stopped)
where_joined_refused second (Err e) P Q none stopped f = none

-- a part that is handed back where a token comes after it
pub where_same : {A : Type 0} (part : A) (result : Option A) (Q : Type 0) (P : A → Type 0) → IfSome result (λ same. part ≡ same) → OnSome result Q →
    (Q → P part) → IfSome result P
where_same part (Some same) Q P is read f = subst P is (f read)
where_same part None Q P is read f = is
