pub mod Acceptor
