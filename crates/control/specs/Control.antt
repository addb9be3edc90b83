-- Document 01, "Frames": FC. Assumes nothing.
use Rattle.std.specs.Prelude.{ℕ, ◌+◌, ◌*◌, ◌/◌, ◌%◌, Bool, true, false}
use Rattle.choice.specs.Choice.{pick, same, said}
use Rattle.control.specs.declared.Service.{Service}
use Rattle.control.specs.declared.Service.TheVariants.{SdaLow, SdnLow, SdaHigh, SdnHigh, Status, SrdLow}
use Rattle.control.specs.declared.Service.TheVariants.{SrdHigh, Ident, Lsap}
use Rattle.control.specs.declared.Code.{Code}
use Rattle.control.specs.declared.Code.TheVariants.{Ok, Ue, Rr, Rs, Dl, Nr, Dh, Rdl, Rdh}
use Rattle.control.specs.declared.Kind.{Kind}
use Rattle.control.specs.declared.Kind.TheVariants.{Slave, NotReady, Ready, InRing}
use Rattle.control.specs.declared.Control.{Control}
use Rattle.control.specs.declared.Control.TheVariants.{Request, Reply}

-- "low four bits 3 SDA low, 4 SDN low, 5 SDA high, 6 SDN high, 9 FDL status, 12 SRD low, 13 SRD high, 14 Ident, 15
-- LSAP status"
abbrev pub service_number : Service → ℕ
service_number SdaLow = 3
service_number SdnLow = 4
service_number SdaHigh = 5
service_number SdnHigh = 6
service_number Status = 9
service_number SrdLow = 12
service_number SrdHigh = 13
service_number Ident = 14
service_number Lsap = 15

-- the service that a number names; of a number that names none, any
unfoldable pub service_of : ℕ → Service
service_of n =
    pick (same n 3) SdaLow
    (pick (same n 4) SdnLow
    (pick (same n 5) SdaHigh
    (pick (same n 6) SdnHigh
    (pick (same n 9) Status
    (pick (same n 12) SrdLow
    (pick (same n 13) SrdHigh
    (pick (same n 14) Ident
    Lsap)))))))

-- "low four bits 0 OK, 1 UE, 2 RR, 3 RS, 8 DL, 9 NR, 10 DH, 12 RDL, 13 RDH"
abbrev pub code_number : Code → ℕ
code_number Ok = 0
code_number Ue = 1
code_number Rr = 2
code_number Rs = 3
code_number Dl = 8
code_number Nr = 9
code_number Dh = 10
code_number Rdl = 12
code_number Rdh = 13

-- the reply code that a number names; of a number that names none, any
unfoldable pub code_of : ℕ → Code
code_of n =
    pick (same n 0) Ok
    (pick (same n 1) Ue
    (pick (same n 2) Rr
    (pick (same n 3) Rs
    (pick (same n 8) Dl
    (pick (same n 9) Nr
    (pick (same n 10) Dh
    (pick (same n 12) Rdl
    Rdh)))))))

-- "0 slave, 1 master not ready, 2 ready, 3 in ring"
abbrev pub type_number : Kind → ℕ
type_number Slave = 0
type_number NotReady = 1
type_number Ready = 2
type_number InRing = 3

-- the station type that a number below 4 names
unfoldable pub type_of : ℕ → Kind
type_of n =
    pick (same n 0) Slave
    (pick (same n 1) NotReady
    (pick (same n 2) Ready
    InRing))

-- a bit as a number
unfoldable pub bit : Bool → ℕ
bit b = pick b 1 0

-- "0x40 set: request, 0x20 FCB, 0x10 FCV"; "0x40 clear: reply, 0x30 station type"
unfoldable pub fc : Control → ℕ
fc (Request s b v) = 64 + 32 * bit b + 16 * bit v + service_number s
fc (Reply k c) = 16 * type_number k + code_number c

-- the control that an octet is read as; of an octet that is not listed, any
unfoldable pub control_of : ℕ → Control
control_of n =
    pick (same (n / 64 % 2) 1)
    (Request (service_of (n % 16)) (same (n / 32 % 2) 1) (same (n / 16 % 2) 1))
    (Reply (type_of (n / 16 % 4)) (code_of (n % 16)))

-- the services whose requests are counted by FCB and FCV: SDA and SRD
abbrev pub counted : Service → Bool
counted SdaLow = true
counted SdnLow = false
counted SdaHigh = true
counted SdnHigh = false
counted Status = false
counted SrdLow = true
counted SrdHigh = true
counted Ident = false
counted Lsap = false

-- "FCB and FCV are 0 except in SDA and SRD"
unfoldable pub lawful : Control → Bool
lawful (Request s b v) = pick (said (counted s)) true (pick b false (pick v false true))
lawful (Reply k c) = true

-- an octet is listed if it is the FC of the control that it is read as, and that control is lawful. So 0x80 is 0
unfoldable pub listed : ℕ → Bool
listed n = pick (same (fc (control_of n)) n) (lawful (control_of n)) false

-- SDN, low or high
unfoldable pub sdn : ℕ → Bool
sdn n = pick (same n 68) true (pick (same n 70) true false)
