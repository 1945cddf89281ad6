-- The promises of specs/Promises.antt: what stands at the front of the octets from a place on is what stands there.
use mathlib.Core.Path.{refl}
use native.Mathlib.Omega.{arith}
use Rattle.message.proofs.Values.{value-one, value-two}
use Rattle.message_calls.specs.Promises.{ReaderReads}

pub reader-reads : ReaderReads
reader-reads =
    record {
      octets = λ info at. refl;
      place = λ info at. refl;
      octet = λ r. value-one r.src.now r.at;
      word = λ r. omega (arith, value-two r.src.now r.at);
    }
