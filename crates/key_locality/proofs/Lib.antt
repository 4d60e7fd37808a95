mod Needed
