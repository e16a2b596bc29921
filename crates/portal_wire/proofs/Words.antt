-- Bytes that are no token are none of the methods that some route has.
use Rattle.portal_wire.proofs.Base.{◌≡◌, ℕ, ◌<◌, false, List, length, refl, sym, subst, arith, codes, bytes_eq}
use Rattle.portal_wire.proofs.Base.{bytes_decides, IsTrue, method_of}
use Rattle.std.proofs.lemmas.Bool.{false_from_ne_true}
use Rattle.std.proofs.lemmas.List.Elements.{All-from_recursion}
use Rattle.std.specs.List.{AllByRecursion}
use Rattle.http_header.specs.Token.{IsToken, is_token_byte}
use Rattle.portal_wire.specs.declared.routes.Method.TheVariants.{Other}

differs : (bytes word : List ℕ) → ¬ (IsToken bytes) → 0 < length word
    → AllByRecursion (λ x. IsTrue (is_token_byte x)) word → bytes_eq bytes word ≡ false
differs bytes word not some all = false_from_ne_true (bytes_eq bytes word)
    (λ e. not (subst IsToken (sym ((bytes_decides bytes word).0 e)) (some, All-from_recursion (λ x. IsTrue (is_token_byte x)) word all)))

pub none_named : (bytes : List ℕ) → ¬ (IsToken bytes) → Other ≡ method_of bytes
unfolding is_token_byte
none_named bytes not =
    rw (
      differs bytes (codes "GET") not (omega arith) (refl, (refl, (refl, tt))),
      differs bytes (codes "HEAD") not (omega arith) (refl, (refl, (refl, (refl, tt)))),
      differs bytes (codes "PUT") not (omega arith) (refl, (refl, (refl, tt))),
      differs bytes (codes "POST") not (omega arith) (refl, (refl, (refl, (refl, tt)))),
    )
    refl
